use Rattle.std.proofs.Common.{[], ◌∷◌, vec_items, rules}
use Rattle.logs.specs.declared.call.Answer.TheVariants.{Number}
use Rattle.logs.specs.Plain.{end_of}
use Rattle.logs.proofs.Laws.{replayed_end}
use Rattle.logs.proofs.replay.replay_to_end.Goals as goal
use Rattle.logs.proofs.replay.replay_to_end.Goals.{in-Some+in_ok-push, in_default}

pub returns : goal.returns
returns g c = (
  g.S.DocSet.meaning c.replay.new.set,
  elim c.match-count_at_end.branch [
    | in-Some+in_ok-push w ↦
        replayed_end _ _ _ (end_of c.args.last) (vec_items c.in_ok-answers.answers) (Number w.in-Some.number ∷ []) _
        c.in_ok-answers.ensures (search rules) w.in-Some.ensures
    | in_default w ↦
        replayed_end _ _ _ (end_of c.args.last) (vec_items c.in_ok-answers.answers) [] _
        c.in_ok-answers.ensures (search rules) w.in_default.ensures
  ],
)
