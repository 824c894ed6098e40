-- Where a threshold stands: nowhere while its sets are unread, else at a document or at the end.
use Rattle.std.specs.Prelude.{ℕ, Bool, Option, is_none, Float}
use Rattle.std.specs.Option.{option_map_or}
use Rattle.docset.specs.Meaning.{TERM, zero_score}
use Rattle.threshold.specs.declared.queue.Stand.{Stand}

abbrev pub unread : Option Stand → Bool
unread stand = is_none stand

-- the current document: none while the sets are unread, as at the end
abbrev pub doc_at : Option Stand → ℕ
doc_at stand = option_map_or (λ (s : Stand). s.doc) stand TERM

-- its score, 0.0 where there is none
abbrev pub score_at : Option Stand → Float
score_at stand = option_map_or (λ (s : Stand). s.score) stand zero_score
