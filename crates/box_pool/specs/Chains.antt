-- How the nodes of the block are linked into lists. No public clause cites it; the lists that a
-- caller sees are what `lists_from` reads by following the links.
use Rattle.std.specs.Prelude.{◌≡◌, ◌≢◌, ℕ, zero, suc, ◌+◌, ◌≤◌, List, [], ◌∷◌, length, sum, get_or}
use Rattle.std.specs.Prelude.{Option, Some, None}
use Rattle.box_pool.specs.declared.item.Item.{Item}
use Rattle.box_pool.specs.declared.item.Node.{Node}

-- a node's place, and the item in it
pub record Link : Type 0 where
  pub place : ℕ
  pub item : Item

abbrev pub node : Item → ℕ → Node
node item next = record { item = item; next = next }

abbrev pub node_at : List (Option Node) → ℕ → Option Node
node_at slots place = get_or slots place None

-- from the place on the nodes are linked as the links say
abbrev pub Chain : List (Option Node) → ℕ → List Link → Type 0
Chain slots place [] = Unit {0}
Chain slots place (l ∷ ls) = (l.place ≡ place)
    × ((next : ℕ) × (node_at slots place ≡ Some (node l.item next)) × Chain slots next ls)

-- the same, and the last node is linked to the end
abbrev pub ChainTo : List (Option Node) → ℕ → List Link → ℕ → Type 0
ChainTo slots place [] end = place ≡ end
ChainTo slots place (l ∷ ls) end = (l.place ≡ place)
    × ((next : ℕ) × (node_at slots place ≡ Some (node l.item next)) × ChainTo slots next ls end)

-- the place of the spare node behind a spare one: behind an unused node stands the next one
abbrev pub spare_behind : Option Node → ℕ → ℕ
spare_behind None place = place + 1
spare_behind (Some n) place = n.next

-- the place is that of no link
abbrev pub IsFree : ℕ → List Link → Type 0
IsFree place [] = Unit {0}
IsFree place (l ∷ ls) = (place ≢ l.place) × IsFree place ls

-- no place comes twice
abbrev pub Once : List Link → Type 0
Once [] = Unit {0}
Once (l ∷ ls) = IsFree l.place ls × Once ls

-- each place belongs to the owner
abbrev pub Belong : (ℕ → ℕ) → ℕ → List Link → Type 0
Belong owner who [] = Unit {0}
Belong owner who (l ∷ ls) = (owner l.place ≡ who) × Belong owner who ls

-- the last link has the place
abbrev pub EndsAt : ℕ → List Link → Type 0
EndsAt place [] = Unit {0}
EndsAt place (l ∷ []) = l.place ≡ place
EndsAt place (l ∷ m ∷ ls) = EndsAt place (m ∷ ls)

abbrev pub next_of : Option Node → ℕ
next_of None = 0
next_of (Some n) = n.next

abbrev pub item_before : Option Node → List Item → List Item
item_before None items = []
item_before (Some n) items = n.item ∷ items

-- the items of so many nodes from the place on
unfoldable pub items_from : List (Option Node) → ℕ → ℕ → List Item
items_from slots zero place = []
items_from slots (suc count) place =
    item_before (node_at slots place) (items_from slots count (next_of (node_at slots place)))

-- the items of the lists that begin at these places and have so many nodes
unfoldable pub lists_from : List (Option Node) → List ℕ → List ℕ → List (List Item)
lists_from slots [] counts = []
lists_from slots (first ∷ firsts) [] = []
lists_from slots (first ∷ firsts) (count ∷ counts) =
    items_from slots count first ∷ lists_from slots firsts counts

-- The nodes are linked into lists, and those that were given back into one of spare nodes. It leads
-- to the node `used`, and from there on all are spare and hold nothing. That no node is in two
-- lists is said by its one owner: 0 where it is spare, else the number of its list plus one.
pub record IsLinked (slots : List (Option Node)) (firsts lasts counts : List ℕ)
    (free spare used nodes : ℕ) : Type 0 where
  pub chain : ℕ → List Link
  pub owner : ℕ → ℕ
  pub linked : (bucket : ℕ) → Chain slots (get_or firsts bucket 0) (chain bucket)
  pub counted : (bucket : ℕ) → length (chain bucket) ≡ get_or counts bucket 0
  pub ended : (bucket : ℕ) → EndsAt (get_or lasts bucket 0) (chain bucket)
  pub owned : (bucket : ℕ) → Belong owner (suc bucket) (chain bucket)
  pub once : (bucket : ℕ) → Once (chain bucket)
  pub spares : List Link
  pub spares_linked : ChainTo slots free spares used
  pub spares_counted : length spares + nodes ≡ spare + used
  pub spares_owned : Belong owner 0 spares
  pub spares_once : Once spares
  pub unused : (place : ℕ) → used ≤ place → node_at slots place ≡ None
  pub all : sum counts + spare ≡ nodes
