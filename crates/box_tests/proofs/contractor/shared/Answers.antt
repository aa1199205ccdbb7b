use Rattle.std.proofs.Common.{◌≡◌, Vec, Global, rules, arith, [], ◌∷◌, ◌++◌, ap, ◌∙◌, sym, subst, refl}
use Rattle.std.specs.Prelude.{ℤ}
use Rattle.grid_model.specs.declared.boxes.Box3.{Box3}
use Rattle.grid_model.specs.Boxes.{grid_box}
use Rattle.sat_model.specs.Trees.{TreeValue, All, Within, no_trees, tree, HaveSoundNodes, IsWellFormed}
use Rattle.range_contractor.specs.declared.tree.Tree.{Tree, All as CodeAll, Within as CodeWithin, the_lemmas}
use Rattle.range_contractor.specs.Views.{tree_value, tree_values}
use Rattle.box_tests.proofs.contractor.shared.Goals as goal

view_all : {I A : Type 0} (low high : I → ℤ) (kids : Vec (Tree I A) Global)
    → tree_value low high (CodeAll kids) ≡ All (tree_values low high kids.items)
view_all low high kids = search (rules, the_lemmas)

view_within : (I A : Type 0) (low high : I → ℤ) (a : Box3)
    → tree_value {A = A} low high (CodeWithin a) ≡ Within (grid_box a)
view_within I A low high a = search (rules, the_lemmas)

same_trees : (t u t' u' : TreeValue) → t ≡ t' → u ≡ u'
    → All (tree t (tree u no_trees)) ≡ All (tree t' (tree u' no_trees))
same_trees t u t' u' e f = rw (e, f) refl

two_boxes : {I A : Type 0} (low high : I → ℤ) (kids : Vec (Tree I A) Global) (a b : Box3)
    → kids.items ≡ CodeWithin a ∷ CodeWithin b ∷ []
    → IsWellFormed (tree_value low high (CodeAll kids))
two_boxes low high kids a b e =
    let sound : HaveSoundNodes (tree (Within (grid_box a)) (tree (Within (grid_box b)) no_trees)) = (tt, (tt, tt)) in
    subst IsWellFormed (sym (view_all low high kids ∙ ap (λ l. All (tree_values low high l)) e ∙ same_trees _ _ _ _ (view_within _ _ low high a) (view_within _ _ low high b)))
    (record { depth = omega arith; nodes = (omega arith, omega arith, sound) })

pub returns : goal.returns
returns g c =
    let I = g.I.Interval in
    two_boxes I.low I.high c.push-2.new.self c.args.one c.args.other
    (c.in_ok-push-2.ensures.items ∙ ap (λ l. l ++ CodeWithin c.args.other ∷ []) (c.in_ok-push.ensures.items ∙ ap (λ l. l ++ CodeWithin c.args.one ∷ []) c.new-kids.ensures.items))
