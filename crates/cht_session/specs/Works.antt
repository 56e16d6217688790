-- The work of a script: that of all tasks that its statements ask, in dense integer matrices.
use Rattle.std.specs.Prelude.{ℕ, ◌+◌, List, [], ◌∷◌}
use Rattle.dense_def.specs.Matrix.{Matrix}
use Rattle.quad_matrix.specs.Goals.{kind_of}
use Rattle.quad_matrix.specs.Works.{work_of}
use Rattle.mm_text.specs.declared.market.Form.{Form}
use Rattle.cht_script.specs.declared.script.Verb.{Verb}
use Rattle.cht_script.specs.declared.script.Verb.TheVariants.{Copy, Add, Mul, TMul, MulT, Square, Full, Trace, Count, Print, Delete}
use Rattle.cht_script.specs.Statements.{Act, input_names}
use Rattle.cht_script.specs.Meaning.{Known, Deed, Lists, Acts, first_matrix, second_matrix, first_form, known_by}
use Rattle.cht_session.specs.Forms.{tree_in, what_asked, work_listed}
use Rattle.cht_session.specs.Program.{second_form}

-- the work of what a verb asks on matrices in these forms, by the trees of both
abbrev pub work_of_verb : ℕ → ℕ → Verb → Form → Form → Matrix → Matrix → ℕ
work_of_verb b h Copy f g m n = 0
work_of_verb b h Add f g m n = work_of (kind_of (what_asked Add f g) h) (tree_in f b h m ∷ tree_in g b h n ∷ [])
work_of_verb b h Mul f g m n = work_of (kind_of (what_asked Mul f g) h) (tree_in f b h m ∷ tree_in g b h n ∷ [])
work_of_verb b h TMul f g m n = work_of (kind_of (what_asked TMul f g) h) (tree_in f b h m ∷ tree_in g b h n ∷ [])
work_of_verb b h MulT f g m n = work_of (kind_of (what_asked MulT f g) h) (tree_in f b h m ∷ tree_in g b h n ∷ [])
work_of_verb b h Square f g m n = work_of (kind_of (what_asked Square f g) h) (tree_in f b h m ∷ [])
work_of_verb b h Full f g m n = work_of (kind_of (what_asked Full f g) h) (tree_in f b h m ∷ [])
work_of_verb b h Trace f g m n = work_of (kind_of (what_asked Trace f g) h) (tree_in f b h m ∷ [])
work_of_verb b h Count f g m n = 0
work_of_verb b h Print f g m n = 0
work_of_verb b h Delete f g m n = 0

-- the work of what a statement asks, where these names are bound
abbrev pub work_by : ℕ → ℕ → List Known → Deed → ℕ
work_by b h known (Lists n name form m) = work_listed form b h m
work_by b h known (Acts n verb names) =
    work_of_verb b h verb
    (first_form known (input_names (Act verb names))) (second_form known (input_names (Act verb names)))
    (first_matrix known (input_names (Act verb names))) (second_matrix known (input_names (Act verb names)))

-- the work of statements, one after another
abbrev pub works_by : ℕ → ℕ → List Known → List Deed → ℕ
works_by b h known [] = 0
works_by b h known (deed ∷ deeds) = work_by b h known deed + works_by b h (known_by known deed) deeds
