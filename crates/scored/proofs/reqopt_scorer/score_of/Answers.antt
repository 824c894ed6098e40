use Rattle.scored.proofs.Optionals.{look_passed, look_missed, look_found}
use Rattle.scored.proofs.reqopt_scorer.score_of.Goals as goal

pub returns-then-doc : goal.returns-then-doc
returns-then-doc g c = look_passed _ _ _ c.doc.ensures c.if-doc.true

pub returns-then-found-doc : goal.returns-then-found-doc
returns-then-found-doc g c = look_missed _ _ _ _ _ c.requires c.doc.ensures c.seek-found.ensures c.if-found-doc.true

pub returns : goal.returns
returns g c = look_found _ _ _ _ _ _ c.requires c.seek-found.ensures c.if-found-doc.false c.score.ensures
