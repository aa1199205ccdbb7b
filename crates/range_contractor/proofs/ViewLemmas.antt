-- The plain tree of a tree, level by level.
use Rattle.std.proofs.Common.{◌≡◌, ℕ, suc, Vec, Box, Global, rules, List, [], ◌∷◌, length, map, refl, sym, ap, ◌∙◌}
use Rattle.std.proofs.lemmas.List.{length-map}
use Rattle.std.specs.Prelude.{ℤ}
use Rattle.range_contractor.specs.declared.tree.Tree.{Tree, Relaxed as CodeRelaxed, Again as CodeAgain, the_lemmas}
use Rattle.sat_model.specs.Trees.{TreeValue, TreeList, Sat, Relaxed, Again, trees_of, count_trees}
use Rattle.sat_model.specs.RowTrees.{row_leaf, row_tree}
use Rattle.sat_model.specs.declared.rows.Row.{Row}
use Rattle.range_contractor.specs.Views.{tree_value, tree_values}

pub view_relaxed : {I A : Type 0} (low high : I → ℤ) (q : ℕ) (kids : Vec (Tree I A) Global)
    → tree_value low high (CodeRelaxed q kids) ≡ Relaxed q (tree_values low high kids.items)
view_relaxed low high q kids = search (rules, the_lemmas)

pub view_again : {I A : Type 0} (low high : I → ℤ) (rounds : ℕ) (kid : Box (Tree I A) Global)
    → tree_value low high (CodeAgain rounds kid) ≡ Again rounds (tree_value low high kid.value)
view_again low high rounds kid = search (rules, the_lemmas)

-- ---- the tree of rows, from the outside in

count_of : (kids : List TreeValue) → count_trees (trees_of kids) ≡ length kids
count_of [] = refl
count_of (kid ∷ kids) = ap suc (count_of kids)

again_only : (m n : ℕ) (a b : TreeValue) → Again m a ≡ Again n b → (m ≡ n) × (a ≡ b)
again_only m n a b e = (cc, cc)

relaxed_only : (m n : ℕ) (a b : TreeList) → Relaxed m a ≡ Relaxed n b → (m ≡ n) × (a ≡ b)
relaxed_only m n a b e = (cc, cc)

-- a tree that is that of rows has two rounds of a relaxed tree with a kid for each row
pub kids_many : {I A : Type 0} (low high : I → ℤ) (grain : ℤ) (q rounds p : ℕ) (before : List Row) (kid : Box (Tree I A) Global) (inner : Tree I A) (kids : Vec (Tree I A) Global)
    → tree_value low high (CodeAgain rounds kid) ≡ row_tree grain before q → kid.value ≡ inner
    → inner ≡ CodeRelaxed p kids
    → (rounds ≡ 2) × (p ≡ q) × (length kids.items ≡ length before)
kids_many low high grain q rounds p before kid inner kids e is inner_is =
    let (two, rest) = again_only rounds 2 _ _ (sym (view_again low high rounds kid) ∙ e) in
    let (same, list) = relaxed_only p q _ _ (sym (view_relaxed low high p kids) ∙ sym (ap (λ t. tree_value low high t) (is ∙ inner_is)) ∙ rest) in
    (two, same, sym (length-map kids.items (tree_value low high)) ∙ sym (count_of (map (tree_value low high) kids.items)) ∙ ap count_trees list ∙ count_of (map (λ row. Sat (row_leaf grain row)) before) ∙ length-map before (λ row. Sat (row_leaf grain row)))
