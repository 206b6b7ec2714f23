-- What the trees of atoms, items and bodies mean.
use Rattle.std.specs.Prelude.{ℕ, Bool, true, false, nat_lt, List, [], ◌∷◌, length, if◌then◌else◌, Option}
use Rattle.scasp_num.specs.declared.linear.Op.{Op}
use Rattle.scasp_num.specs.Linear.{Linear}
use Rattle.scasp_syntax.specs.Flat.{flat_body}
use Rattle.scasp_syntax.specs.Tm.{Tm, items, listed}
use Rattle.scasp_syntax.specs.declared.atom.Atom.{Atom as MeantAtom}
use Rattle.scasp_syntax.specs.declared.clause.Item.{Item as MeantItem}
use Rattle.scasp_syntax.specs.declared.clause.Item.TheVariants as form
use Rattle.scasp_reader_expressions.specs.Sums.{row_of}
use Rattle.scasp_reader_expressions.specs.Values.{united}
use Rattle.scasp_reader.specs.declared.bodies.atoms.TheConstants.{DEPTH_LIMIT}
use Rattle.scasp_reader.specs.declared.bodies.bodies.TheConstants.{ITEM_LIMIT}
use Rattle.scasp_reader.specs.Bodies.Atoms.{reserved, is_reserved, atom_of}
use Rattle.scasp_reader.specs.Bodies.Items.{call_of, equation_of}
use Rattle.scasp_law_program_text.specs.Grammar.Known.{Make, ◌>>=◌, means, nothing, only, named}
use Rattle.scasp_law_program_text.specs.Grammar.Trees.{Term, Expression, Atom, Item, a_call, a_negative_call, an_equation, a_disequation, a_comparison, Body, one_item, more_items}
use Rattle.scasp_law_program_text.specs.Grammar.Terms.{term_meaning, arguments_meaning}
use Rattle.scasp_law_program_text.specs.Grammar.Expressions.{Worth, expression_meaning}

-- an atom of this name and these arguments; the language lacks some predicates of Prolog
abbrev pub allowed_atom : Bool → List ℕ → ℕ → List Tm → Make MeantAtom
allowed_atom is_negated text f ts = if is_reserved reserved text (length (items (listed ts))) then nothing else means (atom_of is_negated f (listed ts))

abbrev pub atom_meaning : Atom → Make MeantAtom
atom_meaning a = named a.name >>= (λ f. arguments_meaning DEPTH_LIMIT a.arguments >>= (λ ts. allowed_atom a.is_negated a.name f ts))

abbrev pub call_meaning : Bool → Atom → Make MeantItem
call_meaning positive a = atom_meaning a >>= (λ x. means (call_of positive x))

abbrev pub equation_meaning : Bool → Term → Term → Make MeantItem
equation_meaning are_equal l r = term_meaning DEPTH_LIMIT l >>= (λ t. term_meaning DEPTH_LIMIT r >>= (λ u. means (equation_of are_equal t u)))

-- a OP b as a row, or b OP a
abbrev pub row_between : Op → Bool → Worth → Worth → Option Linear
row_between o is_turned a b = if is_turned then row_of o b.sum a.sum else row_of o a.sum b.sum

-- a linear item has all variables that are written in it
abbrev pub linear_item : Worth → Worth → Linear → MeantItem
linear_item a b row = form.Linear (record { vars = united a.variables b.variables; row = row })

abbrev pub comparison_meaning : Expression → Op → Bool → Expression → Make MeantItem
comparison_meaning l o is_turned r =
    expression_meaning DEPTH_LIMIT l >>= (λ a. expression_meaning DEPTH_LIMIT r >>= (λ b. only (row_between o is_turned a b) >>= (λ row. means (linear_item a b row))))

abbrev pub item_meaning : Item → Make MeantItem
item_meaning (a_call a) = call_meaning true a
item_meaning (a_negative_call a) = call_meaning false a
item_meaning (an_equation l r) = equation_meaning true l r
item_meaning (a_disequation l r) = equation_meaning false l r
item_meaning (a_comparison l o is_turned r) = comparison_meaning l o is_turned r

abbrev pub items_meaning : Body → Make (List MeantItem)
items_meaning (one_item i) = item_meaning i >>= (λ x. means (x ∷ []))
items_meaning (more_items i b) = item_meaning i >>= (λ x. items_meaning b >>= (λ xs. means (x ∷ xs)))

-- of flat items there may be only so many
abbrev pub limited_items : List MeantItem → Make (List MeantItem)
limited_items xs = if nat_lt ITEM_LIMIT (length (flat_body xs)) then nothing else means xs

abbrev pub body_meaning : Body → Make (List MeantItem)
body_meaning b = items_meaning b >>= (λ xs. limited_items xs)
