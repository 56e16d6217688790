-- The names of the kinds of tasks.
use Rattle.std.specs.Prelude.{◌≡◌, ℕ, Option, Some, List, [], ◌∷◌, codes, bytes_eq, find, refl}
use Rattle.std.proofs.Common.{sym, ap, ◌∙◌, lit≤}
use Rattle.task_types.specs.Names.{IsName}
use Rattle.quad_matrix.specs.declared.kind.What.{What}
use Rattle.quad_matrix.specs.declared.kind.What.TheVariants.{Assign, Add, Mul, TMul, MulT, Transpose, Join, Trace, AddNum, SAssign, SAdd, Square, RankMul, TRank, SMul, MulS, Full, SJoin, STrace}
use Rattle.quad_matrix.specs.declared.kind.MatKind.{MatKind}
use Rattle.quad_matrix.specs.Goals.{kind_of}

-- the name of what a task computes
abbrev pub what_name : What → List ℕ
what_name Assign = codes "assign"
what_name Add = codes "add"
what_name Mul = codes "mul"
what_name TMul = codes "tmul"
what_name MulT = codes "mult"
what_name Transpose = codes "transpose"
what_name Join = codes "join"
what_name Trace = codes "trace"
what_name AddNum = codes "addnum"
what_name SAssign = codes "sassign"
what_name SAdd = codes "sadd"
what_name Square = codes "square"
what_name RankMul = codes "rankmul"
what_name TRank = codes "trank"
what_name SMul = codes "smul"
what_name MulS = codes "muls"
what_name Full = codes "full"
what_name SJoin = codes "sjoin"
what_name STrace = codes "strace"

-- all that a task may compute
abbrev pub all_whats : List What
all_whats = Assign ∷ Add ∷ Mul ∷ TMul ∷ MulT ∷ Transpose ∷ Join ∷ Trace ∷ AddNum ∷ SAssign ∷ SAdd ∷ Square ∷ RankMul ∷ TRank ∷ SMul ∷ MulS ∷ Full ∷ SJoin ∷ STrace ∷ []

-- what has this name
abbrev pub what_of : List ℕ → Option What
what_of name = find (λ what. bytes_eq (what_name what) name) all_whats

-- the names are names
pub names_named : (what : What) → IsName (what_name what)
names_named Assign = (lit≤ tt, lit≤ tt, refl)
names_named Add = (lit≤ tt, lit≤ tt, refl)
names_named Mul = (lit≤ tt, lit≤ tt, refl)
names_named TMul = (lit≤ tt, lit≤ tt, refl)
names_named MulT = (lit≤ tt, lit≤ tt, refl)
names_named Transpose = (lit≤ tt, lit≤ tt, refl)
names_named Join = (lit≤ tt, lit≤ tt, refl)
names_named Trace = (lit≤ tt, lit≤ tt, refl)
names_named AddNum = (lit≤ tt, lit≤ tt, refl)
names_named SAssign = (lit≤ tt, lit≤ tt, refl)
names_named SAdd = (lit≤ tt, lit≤ tt, refl)
names_named Square = (lit≤ tt, lit≤ tt, refl)
names_named RankMul = (lit≤ tt, lit≤ tt, refl)
names_named TRank = (lit≤ tt, lit≤ tt, refl)
names_named SMul = (lit≤ tt, lit≤ tt, refl)
names_named MulS = (lit≤ tt, lit≤ tt, refl)
names_named Full = (lit≤ tt, lit≤ tt, refl)
names_named SJoin = (lit≤ tt, lit≤ tt, refl)
names_named STrace = (lit≤ tt, lit≤ tt, refl)

-- each is found by its name
pub what_of-name : (what : What) → what_of (what_name what) ≡ Some what
what_of-name Assign = refl
what_of-name Add = refl
what_of-name Mul = refl
what_of-name TMul = refl
what_of-name MulT = refl
what_of-name Transpose = refl
what_of-name Join = refl
what_of-name Trace = refl
what_of-name AddNum = refl
what_of-name SAssign = refl
what_of-name SAdd = refl
what_of-name Square = refl
what_of-name RankMul = refl
what_of-name TRank = refl
what_of-name SMul = refl
what_of-name MulS = refl
what_of-name Full = refl
what_of-name SJoin = refl
what_of-name STrace = refl

-- so what has one name is one
names_differ : (one other : What) → what_name one ≡ what_name other → one ≡ other
names_differ one other e =
    let found : Some one ≡ Some other = sym (what_of-name one) ∙ ap what_of e ∙ what_of-name other in cc

-- kinds of one name and one height are one
pub kinds_differ : (one other : MatKind) → what_name one.what ≡ what_name other.what → one.height ≡ other.height
    → one ≡ other
kinds_differ one other e h =
    ap (λ what. kind_of what one.height) (names_differ one.what other.what e) ∙ ap (kind_of other.what) h
