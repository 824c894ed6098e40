use Rattle.docset.proofs.refusal.RefusalDisplay.fmt.Goals as goal

pub returns-in-NotRising-clause-writes : goal.returns-in-NotRising-clause-writes
returns-in-NotRising-clause-writes g c = simp c.in-NotRising.is c.write.ensures.writes

pub returns-in-TooLarge-clause-writes : goal.returns-in-TooLarge-clause-writes
returns-in-TooLarge-clause-writes g c = simp c.in-TooLarge.is c.write-in-TooLarge.ensures.writes

pub returns-in-BitPastEnd-clause-writes : goal.returns-in-BitPastEnd-clause-writes
returns-in-BitPastEnd-clause-writes g c = simp c.in-BitPastEnd.is c.write-in-BitPastEnd.ensures.writes

pub returns-in-TooManySets-clause-writes : goal.returns-in-TooManySets-clause-writes
returns-in-TooManySets-clause-writes g c = simp c.in-TooManySets.is c.write-in-TooManySets.ensures.writes

pub returns-in-MinimumZero-clause-writes : goal.returns-in-MinimumZero-clause-writes
returns-in-MinimumZero-clause-writes g c = simp c.in-MinimumZero.is c.write-in-MinimumZero.ensures.writes
