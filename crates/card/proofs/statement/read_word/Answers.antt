use Rattle.std.proofs.Common.{codes, sym, ap, arith}
use Rattle.std.proofs.lemmas.Slice.Eq.{text_from_reads}
use Rattle.card.specs.Statements.{word_of}
use Rattle.card.proofs.statement.read_word.Goals as goal

pub returns-in-97 : goal.returns-in-97
returns-in-97 c =
    sym
    (ap word_of
    (text_from_reads c.args.field.now (codes "at-least") (omega arith)
    (omega arith, (omega arith, (omega arith, (omega arith, (omega arith, (omega arith, (omega arith, (omega arith, tt)))))))))
    )
