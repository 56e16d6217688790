use Rattle.std.proofs.Common.{arith, refl}
use Rattle.std.specs.Prelude.{codes}
use Rattle.cht_script.proofs.Verbs.{spelled}
use Rattle.cht_script.proofs.statement.verb_named.Goals as goal

pub returns-in-copy : goal.returns-in-copy
returns-in-copy c = rw (spelled c.args.word.now (codes "copy") (omega arith) (omega arith, (omega arith, (omega arith, (omega arith, tt))))) refl

pub returns-in-tmul : goal.returns-in-tmul
returns-in-tmul c = rw (spelled c.args.word.now (codes "tmul") (omega arith) (omega arith, (omega arith, (omega arith, (omega arith, tt))))) refl

pub returns-in-mult : goal.returns-in-mult
returns-in-mult c = rw (spelled c.args.word.now (codes "mult") (omega arith) (omega arith, (omega arith, (omega arith, (omega arith, tt))))) refl

pub returns-in-square : goal.returns-in-square
returns-in-square c = rw (spelled c.args.word.now (codes "square") (omega arith) (omega arith, (omega arith, (omega arith, (omega arith, (omega arith, (omega arith, tt))))))) refl

pub returns-in-full : goal.returns-in-full
returns-in-full c = rw (spelled c.args.word.now (codes "full") (omega arith) (omega arith, (omega arith, (omega arith, (omega arith, tt))))) refl

pub returns-in-trace : goal.returns-in-trace
returns-in-trace c = rw (spelled c.args.word.now (codes "trace") (omega arith) (omega arith, (omega arith, (omega arith, (omega arith, (omega arith, tt)))))) refl

pub returns-in-count : goal.returns-in-count
returns-in-count c = rw (spelled c.args.word.now (codes "count") (omega arith) (omega arith, (omega arith, (omega arith, (omega arith, (omega arith, tt)))))) refl

pub returns-in-print : goal.returns-in-print
returns-in-print c = rw (spelled c.args.word.now (codes "print") (omega arith) (omega arith, (omega arith, (omega arith, (omega arith, (omega arith, tt)))))) refl

pub returns-in-delete : goal.returns-in-delete
returns-in-delete c = rw (spelled c.args.word.now (codes "delete") (omega arith) (omega arith, (omega arith, (omega arith, (omega arith, (omega arith, (omega arith, tt))))))) refl
