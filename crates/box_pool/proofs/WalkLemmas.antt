-- The items of a list are gone through one by one.
use Rattle.std.proofs.Common.{◌≡◌, ℕ, ◌+◌, ◌<◌, ◌≤◌, ◌++◌, List, [], ◌∷◌, Option, Some, length, append_assoc, arith, refl, subst, sym, ap, ◌∙◌}
use Rattle.grid_model.specs.declared.boxes.Box3.{Box3}
use Rattle.box_pool.specs.declared.item.Item.{Item}
use Rattle.box_pool.specs.declared.item.Node.{Node}
use Rattle.box_pool.specs.Chains.{Link, Chain, node, node_at}
use Rattle.box_pool.specs.Hulls.{IsHullOf}
use Rattle.box_pool.proofs.ChainLemmas.{items_of, same_node}
use Rattle.box_pool.proofs.HullLemmas.{append_to_nil}

-- the links from the place on are left, and the hull is that of the items so far
pub record IsUnderway (slots : List (Option Node)) (place counter end : ℕ) (all : List Item) (known hull : Option Box3) : Type 0 where
  pub rest : List Link
  pub seen : List Item
  pub linked : Chain slots place rest
  pub counted : length rest + counter ≡ end
  pub whole : seen ++ items_of rest ≡ all
  pub least : (items : List Item) → IsHullOf items known → IsHullOf (items ++ seen) hull

pub begins : (slots : List (Option Node)) (place end : ℕ) (all : List Item) (known : Option Box3) (ls : List Link)
    → Chain slots place ls → length ls ≡ end → items_of ls ≡ all
    → IsUnderway slots place 0 end all known known
begins slots place end all known ls linked long whole = record {
  rest = ls;
  seen = [];
  linked = linked;
  counted = omega (arith, long);
  whole = whole;
  least = λ items k. subst (λ xs. IsHullOf xs known) (sym (append_to_nil items [] refl)) k;
}

pub node_there : (slots : List (Option Node)) (place counter end : ℕ) (all : List Item) (known hull : Option Box3)
    → IsUnderway slots place counter end all known hull → counter < end
    → (n : Node) × (node_at slots place ≡ Some n)
node_there slots place counter end all known hull k lt = go k.rest k.linked k.counted
  where
    go : (ls : List Link) → Chain slots place ls → length ls + counter ≡ end
        → (n : Node) × (node_at slots place ≡ Some n)
    go [] linked counted = absurd (omega (arith, counted, lt))
    go (l ∷ ls) linked counted = (node l.item linked.1.0, linked.1.1)

pub steps_on : (slots : List (Option Node)) (place counter end : ℕ) (all : List Item) (known hull : Option Box3)
    → IsUnderway slots place counter end all known hull → counter < end
    → (n : Node) → node_at slots place ≡ Some n → (now : Option Box3)
    → ((items : List Item) → IsHullOf items hull → IsHullOf (items ++ n.item ∷ []) now)
    → IsUnderway slots n.next (counter + 1) end all known now
steps_on slots place counter end all known hull k lt n at now more = go k.rest k.linked k.counted k.whole
  where
    go : (ls : List Link) → Chain slots place ls → length ls + counter ≡ end
        → k.seen ++ items_of ls ≡ all → IsUnderway slots n.next (counter + 1) end all known now
    go [] linked counted whole = absurd (omega (arith, counted, lt))
    go (l ∷ ls) linked counted whole =
        let same = same_node n (node l.item linked.1.0) (sym at ∙ linked.1.1) in
        record {
          rest = ls;
          seen = k.seen ++ n.item ∷ [];
          linked = subst (λ p. Chain slots p ls) (sym same.1) linked.1.2;
          counted = omega (arith, counted);
          whole = append_assoc k.seen (n.item ∷ []) (items_of ls) ∙ ap (λ i. k.seen ++ (i ∷ items_of ls)) same.0 ∙ whole;
          least = λ items known_is. subst (λ xs. IsHullOf xs now) (append_assoc items k.seen (n.item ∷ [])) (more (items ++ k.seen) (k.least items known_is));
        }

pub ends : (slots : List (Option Node)) (place counter end : ℕ) (all : List Item) (known hull : Option Box3)
    → IsUnderway slots place counter end all known hull → end ≤ counter
    → (items : List Item) → IsHullOf items known → IsHullOf (items ++ all) hull
ends slots place counter end all known hull k le items known_is = go k.rest k.counted k.whole
  where
    go : (ls : List Link) → length ls + counter ≡ end → k.seen ++ items_of ls ≡ all
        → IsHullOf (items ++ all) hull
    go [] counted whole = subst (λ xs. IsHullOf (items ++ xs) hull) (sym (append_to_nil k.seen [] refl) ∙ whole) (k.least items known_is)
    go (l ∷ ls) counted whole = absurd (omega (arith, counted, le))
