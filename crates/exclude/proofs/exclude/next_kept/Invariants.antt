use Rattle.docset.proofs.Walking.{ahead}
use Rattle.exclude.specs.Excluding.{Passed}
use Rattle.exclude.proofs.exclude.next_kept.Given as goal

abbrev pub invariant-loop-candidate : goal.invariant-loop-candidate
invariant-loop-candidate g l =
    Passed (g.S.DocSet.meaning l.initial.set) (g.S.DocSet.meaning l.set) (g.E.ExclusionSet.lists l.initial.exclusion) (g.E.ExclusionSet.lists l.exclusion) l.initial.candidate l.candidate

abbrev pub decreases-loop-candidate : goal.decreases-loop-candidate
decreases-loop-candidate g l = ahead (g.S.DocSet.meaning l.set) l.candidate
