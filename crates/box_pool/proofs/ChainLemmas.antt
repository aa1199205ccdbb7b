-- Nodes that are linked into lists: what a push and a pop change.
use Rattle.std.proofs.Common.{◌≡◌, ◌≢◌, ℕ, zero, suc, ◌+◌, ◌-◌, ◌<◌, ◌≤◌, max, List, [], ◌∷◌, ◌++◌, length, get_or, set, replicate, map, Option, Some, None, Bool, cond, nat_eq, arith, inl, inr, refl, sym, ap, subst, ◌∙◌}
use Rattle.std.proofs.lemmas.List.Sums.{sum_by-set}
use Rattle.std.proofs.Math.ListN.{length-set}
use Rattle.std.proofs.lemmas.List.{get_or-set_same, get_or-set_other, nil_from_length}
use Rattle.std.proofs.lemmas.Bool.{cases_eq, cases_lt, eq-eqb, ne_eqb}
use Rattle.box_pool.specs.declared.item.Item.{Item}
use Rattle.box_pool.specs.declared.item.Node.{Node}
use Rattle.box_pool.specs.Places.{IsFilled}
use Rattle.box_pool.specs.Chains.{Link, node, node_at, Chain, ChainTo, spare_behind, IsFree, Once, Belong, EndsAt, next_of, item_before, items_from, lists_from, IsLinked}
use Rattle.box_pool.specs.Lists.{list_at, IsPushed, IsPopped}

abbrev pub link : ℕ → Item → Link
link place item = record { place = place; item = item }

abbrev pub items_of : List Link → List Item
items_of = map (λ l. l.item)

some_none : (n : Node) → Some n ≡ None → ⊥
some_none n e = cc

-- a write to a place that is in no link
pub chain_set : (slots : List (Option Node)) (q : ℕ) (x : Option Node) (p : ℕ) (ls : List Link)
    → IsFree q ls → Chain slots p ls → Chain (set slots q x) p ls
chain_set slots q x p [] free c = tt
chain_set slots q x p (l ∷ ls) free c =
    (c.0, (c.1.0, get_or-set_other slots q p x None (λ e. free.0 (sym e ∙ sym c.0)) ∙ c.1.1, chain_set slots q x c.1.0 ls free.1 c.1.2))

-- the same of the spare nodes
pub spares_set : (slots : List (Option Node)) (q : ℕ) (x : Option Node) (p : ℕ) (ls : List Link) (end : ℕ)
    → IsFree q ls → ChainTo slots p ls end → ChainTo (set slots q x) p ls end
spares_set slots q x p [] end free c = c
spares_set slots q x p (l ∷ ls) end free c =
    (c.0, (c.1.0, get_or-set_other slots q p x None (λ e. free.0 (sym e ∙ sym c.0)) ∙ c.1.1, spares_set slots q x c.1.0 ls end free.1 c.1.2))

-- an unused place is that of no link
unused_free : (slots : List (Option Node)) (q p : ℕ) (ls : List Link) → node_at slots q ≡ None
    → Chain slots p ls → IsFree q ls
unused_free slots q p [] none c = tt
unused_free slots q p (l ∷ ls) none c =
    ((λ e. some_none (node l.item c.1.0) (sym c.1.1 ∙ ap (λ i. node_at slots i) (sym c.0 ∙ sym e) ∙ none)), unused_free slots q c.1.0 ls none c.1.2)

pub items_are : (slots : List (Option Node)) (p : ℕ) (ls : List Link) → Chain slots p ls
    → items_from slots (length ls) p ≡ items_of ls
unfolding items_from
items_are slots p [] c = refl
items_are slots p (l ∷ ls) c =
    ap (λ (n : Option Node). item_before n (items_from slots (length ls) (next_of n))) c.1.1 ∙ ap (λ xs. l.item ∷ xs) (items_are slots c.1.0 ls c.1.2)

pub list_is : (slots : List (Option Node)) (firsts counts : List ℕ) (bucket : ℕ)
    → length firsts ≡ length counts
    → list_at (lists_from slots firsts counts) bucket ≡ items_from slots (get_or counts bucket 0) (get_or firsts bucket 0)
unfolding lists_from items_from
list_is slots [] [] bucket e = refl
list_is slots [] (n ∷ ns) bucket e = absurd (omega (arith, e))
list_is slots (f ∷ fs) [] bucket e = absurd (omega (arith, e))
list_is slots (f ∷ fs) (n ∷ ns) zero e = refl
list_is slots (f ∷ fs) (n ∷ ns) (suc bucket) e = list_is slots fs ns bucket (omega (arith, e))

pub free_of : (owner : ℕ → ℕ) (who q : ℕ) (ls : List Link) → Belong owner who ls → owner q ≢ who
    → IsFree q ls
free_of owner who q [] b apart = tt
free_of owner who q (l ∷ ls) b apart = ((λ e. apart (ap owner e ∙ b.0)), free_of owner who q ls b.1 apart)

-- a function that is changed at one number
abbrev pub at : {X : Type 0} → ℕ → X → (ℕ → X) → ℕ → X
at b v f x = cond (nat_eq x b) v (f x)

pub at_same : {X : Type 0} (b : ℕ) (v : X) (f : ℕ → X) (x : ℕ) → x ≡ b → at b v f x ≡ v
at_same b v f x e = ap (λ (t : Bool). cond t v (f x)) (eq-eqb x b e)

pub at_other : {X : Type 0} (b : ℕ) (v : X) (f : ℕ → X) (x : ℕ) → x ≢ b → at b v f x ≡ f x
at_other b v f x ne = ap (λ (t : Bool). cond t v (f x)) (ne_eqb x b ne)

pub everywhere : {X : Type 0} (P : ℕ → X → Type 0) (b : ℕ) (v : X) (f : ℕ → X) → P b v
    → ((x : ℕ) → x ≢ b → P x (f x)) → (x : ℕ) → P x (at b v f x)
everywhere P b v f here there x = elim (cases_eq x b) [
  | inl e ↦ subst (P x) (sym (at_same b v f x e)) (subst (λ y. P y v) (sym e) here)
  | inr ne ↦ subst (P x) (sym (at_other b v f x ne)) (there x ne)
]

-- the owner of a place that is in none of the links changes
pub belong_at : (owner : ℕ → ℕ) (who q to : ℕ) (ls : List Link) → IsFree q ls → Belong owner who ls
    → Belong (at q to owner) who ls
belong_at owner who q to [] free b = tt
belong_at owner who q to (l ∷ ls) free b = (at_other q to owner l.place (λ e. free.0 (sym e)) ∙ b.0, belong_at owner who q to ls free.1 b.1)

pub belong_push : (owner : ℕ → ℕ) (who : ℕ) (ls : List Link) (l : Link) → Belong owner who ls
    → owner l.place ≡ who → Belong owner who (ls ++ l ∷ [])
belong_push owner who [] l b e = (e, tt)
belong_push owner who (m ∷ ls) l b e = (b.0, belong_push owner who ls l b.1 e)

free_push : (q : ℕ) (ls : List Link) (l : Link) → IsFree q ls → q ≢ l.place
    → IsFree q (ls ++ l ∷ [])
free_push q [] l free ne = (ne, tt)
free_push q (m ∷ ls) l free ne = (free.0, free_push q ls l free.1 ne)

pub once_push : (ls : List Link) (l : Link) → Once ls → IsFree l.place ls → Once (ls ++ l ∷ [])
once_push [] l once free = (tt, tt)
once_push (m ∷ ls) l once free = (free_push m.place ls l once.0 (λ e. free.0 (sym e)), once_push ls l once.1 free.1)

pub ends_push : (ls : List Link) (l : Link) → EndsAt l.place (ls ++ l ∷ [])
ends_push [] l = refl
ends_push (m ∷ []) l = refl
ends_push (m ∷ n ∷ ls) l = ends_push (n ∷ ls) l

pub length_push : (ls : List Link) (l : Link) → length (ls ++ l ∷ []) ≡ length ls + 1
length_push [] l = omega arith
length_push (m ∷ ls) l = omega (arith, length_push ls l)

pub items_push : (ls : List Link) (l : Link) → items_of (ls ++ l ∷ []) ≡ items_of ls ++ l.item ∷ []
items_push [] l = refl
items_push (m ∷ ls) l = ap (λ xs. m.item ∷ xs) (items_push ls l)

-- the place of the last link is none of the places that are free of the links
ends_in : (q last : ℕ) (l : Link) (ls : List Link) → EndsAt last (l ∷ ls) → IsFree q (l ∷ ls)
    → q ≢ last
ends_in q last l [] e free = λ same. free.0 (same ∙ sym e)
ends_in q last l (m ∷ ls) e free = ends_in q last m ls e free.1

pub ends_owned : (owner : ℕ → ℕ) (who last : ℕ) (l : Link) (ls : List Link) → EndsAt last (l ∷ ls)
    → Belong owner who (l ∷ ls) → owner last ≡ who
ends_owned owner who last l [] e b = ap owner (sym e) ∙ b.0
ends_owned owner who last l (m ∷ ls) e b = ends_owned owner who last m ls e b.1

pub ends_tail : (last : ℕ) (l : Link) (ls : List Link) → EndsAt last (l ∷ ls) → EndsAt last ls
ends_tail last l [] e = tt
ends_tail last l (m ∷ ls) e = e

-- the last of the links has a node
pub last_filled : (slots : List (Option Node)) (last p : ℕ) (l : Link) (ls : List Link)
    → EndsAt last (l ∷ ls) → Chain slots p (l ∷ ls) → IsFilled slots last
last_filled slots last p l [] e c = (node l.item c.1.0, ap (λ q. node_at slots q) (sym e ∙ c.0) ∙ c.1.1)
last_filled slots last p l (m ∷ ls) e c = last_filled slots last c.1.0 m ls e c.1.2

within : (slots : List (Option Node)) (p : ℕ) (n : Node) → node_at slots p ≡ Some n
    → p < length slots
within [] p n e = cc
within (c ∷ cs) zero n e = omega arith
within (c ∷ cs) (suc p) n e = omega (arith, within cs p n e)

pub same_node : (m n : Node) → Some m ≡ Some n → (m.item ≡ n.item) × (m.next ≡ n.next)
same_node m n e = (ap (λ (o : Option Node). item_or m.item o) e, ap next_of e)
  where
    item_or : Item → Option Node → Item
    item_or d None = d
    item_or d (Some n) = n.item

-- the last node is linked to another one
pub chain_push : (slots : List (Option Node)) (p last q : ℕ) (item : Item) (next : ℕ) (w : Node) (l : Link) (ls : List Link)
    → Chain slots p (l ∷ ls) → Once (l ∷ ls) → EndsAt last (l ∷ ls) → IsFree q (l ∷ ls)
    → node_at slots q ≡ Some (node item next) → node_at slots last ≡ Some w
    → Chain (set slots last (Some (node w.item q))) p (l ∷ (ls ++ link q item ∷ []))
chain_push slots p last q item next w l [] c once e free at_q at_last =
    let p_last : p ≡ last = sym c.0 ∙ e in
    let items = same_node w (node l.item c.1.0) (sym at_last ∙ ap (λ k. node_at slots k) (sym p_last) ∙ c.1.1) in
    let now : node_at (set slots last (Some (node w.item q))) p ≡ Some (node l.item q) =
    ap (λ k. node_at (set slots last (Some (node w.item q))) k) p_last
    ∙ get_or-set_same slots last (Some (node w.item q)) None (within slots last w at_last)
    ∙ ap (λ i. Some (node i q)) items.0 in
    let there : node_at (set slots last (Some (node w.item q))) q ≡ Some (node item next) =
    get_or-set_other slots last q (Some (node w.item q)) None (λ same. free.0 (same ∙ sym e)) ∙ at_q in
    (c.0, (q, now, (refl, (next, there, tt))))
chain_push slots p last q item next w l (m ∷ ls) c once e free at_q at_last =
    let apart : p ≢ last = λ same. ends_in l.place last m ls e once.0 (c.0 ∙ same) in (
      c.0,
      (
        c.1.0,
        get_or-set_other slots last p (Some (node w.item q)) None apart ∙ c.1.1,
        chain_push slots c.1.0 last q item next w m ls c.1.2 once.1 e free.1 at_q at_last,
      ),
    )

abbrev pub write : List (Option Node) → ℕ → Item → ℕ → List (Option Node)
write slots p item next = set slots p (Some (node item next))

pub written : (slots : List (Option Node)) (p : ℕ) (item : Item) (next : ℕ) → p < length slots
    → node_at (write slots p item next) p ≡ Some (node item next)
written slots p item next lt = get_or-set_same slots p (Some (node item next)) None lt

-- a node that is used is below the unused ones
used_below : (slots : List (Option Node)) (used p : ℕ) (n : Node) → ((i : ℕ) → used ≤ i → node_at slots i ≡ None) → node_at slots p ≡ Some n → p < used
used_below slots used p n unused e = elim (cases_lt p used) [
  | inl lt ↦ lt
  | inr le ↦ absurd (some_none n (sym e ∙ unused p le))
]

-- the spare node at the place is in no list, and the other spare ones begin behind it
pub record IsSpare (slots : List (Option Node)) (chain : ℕ → List Link) (owner : ℕ → ℕ) (place behind left mark nodes : ℕ) : Type 0 where
  pub inside : place < length slots
  pub apart : (bucket : ℕ) → IsFree place (chain bucket)
  pub others : List Link
  pub linked : ChainTo slots behind others mark
  pub counted : length others + nodes ≡ left + mark
  pub owned : Belong owner 0 others
  pub once : Once others
  pub besides : IsFree place others
  pub below : place < mark
  pub unused : (i : ℕ) → mark ≤ i → node_at slots i ≡ None

module _ (slots : List (Option Node)) (firsts lasts counts : List ℕ) (free spare used nodes : ℕ) (k : IsLinked slots firsts lasts counts free spare used nodes) (same : length firsts ≡ length counts) where
  pub lists_are : (bucket : ℕ)
      → list_at (lists_from slots firsts counts) bucket ≡ items_of (k.chain bucket)
  lists_are bucket =
      list_is slots firsts counts bucket same
      ∙ ap (λ n. items_from slots n (get_or firsts bucket 0)) (sym (k.counted bucket))
      ∙ items_are slots (get_or firsts bucket 0) (k.chain bucket) (k.linked bucket)

  -- the first spare node
  pub first_spare : 0 < spare → length slots ≡ nodes
      → (free < length slots) × (free < used → IsFilled slots free)
  first_spare some long = go k.spares k.spares_linked k.spares_counted
    where
      go : (ls : List Link) → ChainTo slots free ls used → length ls + nodes ≡ spare + used
          → (free < length slots) × (free < used → IsFilled slots free)
      go [] c e = (omega (arith, c, e, long, some), (λ lt. absurd (omega (arith, c, lt))))
      go (l ∷ ls) c e = (within slots free (node l.item c.1.0) c.1.1, (λ lt. (node l.item c.1.0, c.1.1)))

  -- it leaves the spare ones
  pub spare_there : (behind mark : ℕ) → 0 < spare → length slots ≡ nodes
      → behind ≡ spare_behind (node_at slots free) free → mark ≡ max used (free + 1)
      → IsSpare slots k.chain k.owner free behind (spare - 1) mark nodes
  spare_there behind mark some long is marked = go k.spares k.spares_linked k.spares_counted k.spares_owned k.spares_once
    where
      go : (ls : List Link) → ChainTo slots free ls used → length ls + nodes ≡ spare + used
          → Belong k.owner 0 ls → Once ls
          → IsSpare slots k.chain k.owner free behind (spare - 1) mark nodes
      go [] c n own once =
          let none : node_at slots free ≡ None = k.unused free (omega (arith, c)) in let up : mark ≡ used + 1 = omega (arith, c, marked) in
          record {
            inside = (first_spare some long).0;
            apart = λ x. unused_free slots free (get_or firsts x 0) (k.chain x) none (k.linked x);
            others = [];
            linked = is ∙ ap (λ o. spare_behind o free) none ∙ omega (arith, c, up);
            counted = omega (arith, n, some, up);
            owned = tt;
            once = tt;
            besides = tt;
            below = omega (arith, c, up);
            unused = λ i le. k.unused i (omega (arith, up, le));
          }
      go (l ∷ ls) c n own once =
          let lt = used_below slots used free (node l.item c.1.0) k.unused c.1.1 in let same : mark ≡ used = omega (arith, lt, marked) in
          let owner_free : k.owner free ≡ 0 = ap k.owner (sym c.0) ∙ own.0 in
          record {
            inside = within slots free (node l.item c.1.0) c.1.1;
            apart = λ x. free_of k.owner (suc x) free (k.chain x) (k.owned x) (λ e. absurd (omega (arith, e, owner_free)));
            others = ls;
            linked = subst (λ p. ChainTo slots p ls mark) (sym (is ∙ ap (λ o. spare_behind o free) c.1.1)) (subst (λ m. ChainTo slots c.1.0 ls m) (sym same) c.1.2);
            counted = omega (arith, n, same, some);
            owned = own.1;
            once = once.1;
            besides = subst (λ p. IsFree p ls) c.0 once.0;
            below = omega (arith, lt, same);
            unused = λ i le. k.unused i (omega (arith, same, le));
          }

  -- a list that has a node begins with one and ends with one
  pub first_filled : (bucket : ℕ) → get_or counts bucket 0 ≢ 0
      → IsFilled slots (get_or firsts bucket 0)
  first_filled bucket some = go (k.chain bucket) (k.linked bucket) (k.counted bucket)
    where
      go : (ls : List Link) → Chain slots (get_or firsts bucket 0) ls
          → length ls ≡ get_or counts bucket 0 → IsFilled slots (get_or firsts bucket 0)
      go [] c e = absurd (some (sym e))
      go (l ∷ ls) c e = (node l.item c.1.0, c.1.1)

  pub end_filled : (bucket : ℕ) → get_or counts bucket 0 ≢ 0
      → IsFilled slots (get_or lasts bucket 0)
  end_filled bucket some = go (k.chain bucket) (k.linked bucket) (k.counted bucket) (k.ended bucket)
    where
      go : (ls : List Link) → Chain slots (get_or firsts bucket 0) ls
          → length ls ≡ get_or counts bucket 0 → EndsAt (get_or lasts bucket 0) ls
          → IsFilled slots (get_or lasts bucket 0)
      go [] c e ends = absurd (some (sym e))
      go (l ∷ ls) c e ends = last_filled slots (get_or lasts bucket 0) (get_or firsts bucket 0) l ls ends c

module _ (slots : List (Option Node)) (firsts lasts counts : List ℕ) (free spare used nodes : ℕ) (k : IsLinked slots firsts lasts counts free spare used nodes) (same : length firsts ≡ length counts)
    (bucket : ℕ) (lt : bucket < length firsts) where
  -- the first node of the list goes to the spare ones
  module _ (was : Node) (at_first : node_at slots (get_or firsts bucket 0) ≡ Some was) where
    abbrev F : ℕ
    F = get_or firsts bucket 0

    abbrev S' : List (Option Node)
    S' = write slots F was.item free

    abbrev F' : List ℕ
    F' = set firsts bucket was.next

    abbrev C' : List ℕ
    C' = set counts bucket (get_or counts bucket 0 - 1)

    module _ (l : Link) (ls : List Link) (c : Chain slots F (l ∷ ls)) (n : length (l ∷ ls) ≡ get_or counts bucket 0) (ends : EndsAt (get_or lasts bucket 0) (l ∷ ls))
        (own : Belong k.owner (suc bucket) (l ∷ ls)) (once : Once (l ∷ ls)) where
      owner_first : k.owner F ≡ suc bucket
      owner_first = ap k.owner (sym c.0) ∙ own.0

      elsewhere : (x : ℕ) → x ≢ bucket → IsFree F (k.chain x)
      elsewhere x ne = free_of k.owner (suc x) F (k.chain x) (k.owned x) (λ e. ne (omega (arith, e, owner_first)))

      in_rest : IsFree F ls
      in_rest = subst (λ p. IsFree p ls) c.0 once.0

      in_spares : IsFree F k.spares
      in_spares = free_of k.owner 0 F k.spares k.spares_owned (λ e. absurd (omega (arith, e, owner_first)))

      next_is : was.next ≡ c.1.0
      next_is = (same_node was (node l.item c.1.0) (sym at_first ∙ c.1.1)).1

      item_is : was.item ≡ l.item
      item_is = (same_node was (node l.item c.1.0) (sym at_first ∙ c.1.1)).0

      kept : IsLinked S' F' lasts C' F (spare + 1) used nodes
      kept = record {
        chain = at bucket ls k.chain;
        owner = at F 0 k.owner;
        linked = everywhere (λ x xs. Chain S' (get_or F' x 0) xs) bucket ls k.chain
            (subst (λ p. Chain S' p ls) (sym (get_or-set_same firsts bucket was.next 0 lt ∙ next_is)) (chain_set slots F (Some (node was.item free)) c.1.0 ls in_rest c.1.2))
            (λ x ne. subst (λ p. Chain S' p (k.chain x)) (sym (get_or-set_other firsts bucket x was.next 0 ne))
            (chain_set slots F (Some (node was.item free)) (get_or firsts x 0) (k.chain x) (elsewhere x ne) (k.linked x)));
        counted = everywhere (λ x xs. length xs ≡ get_or C' x 0) bucket ls k.chain
            (let now = get_or-set_same counts bucket (get_or counts bucket 0 - 1) 0 (omega (arith, same, lt)) in omega (arith, now, n))
            (λ x ne. k.counted x ∙ sym (get_or-set_other counts bucket x (get_or counts bucket 0 - 1) 0 ne));
        ended = everywhere (λ x xs. EndsAt (get_or lasts x 0) xs) bucket ls k.chain (ends_tail (get_or lasts bucket 0) l ls ends) (λ x ne. k.ended x);
        owned = everywhere (λ x xs. Belong (at F 0 k.owner) (suc x) xs) bucket ls k.chain (belong_at k.owner (suc bucket) F 0 ls in_rest own.1)
            (λ x ne. belong_at k.owner (suc x) F 0 (k.chain x) (elsewhere x ne) (k.owned x));
        once = everywhere (λ x xs. Once xs) bucket ls k.chain once.1 (λ x ne. k.once x);
        spares = link F was.item ∷ k.spares;
        spares_linked =
            (refl, (free, written slots F was.item free (within slots F was at_first), spares_set slots F (Some (node was.item free)) free k.spares used in_spares k.spares_linked));
        spares_counted = omega (arith, k.spares_counted);
        spares_owned = (at_same F 0 k.owner F refl, belong_at k.owner 0 F 0 k.spares in_spares k.spares_owned);
        spares_once = (in_spares, k.spares_once);
        unused = λ i le. get_or-set_other slots F i (Some (node was.item free)) None (λ e. some_none was (sym at_first ∙ ap (λ j. node_at slots j) (sym e) ∙ k.unused i le)) ∙ k.unused i le;
        all = let all = sum_by-set (λ x. x) counts bucket (get_or counts bucket 0 - 1) 0 (omega (arith, same, lt)) in omega (arith, all, k.all, n);
      }

      kept_same : length F' ≡ length C'
      kept_same = length-set firsts bucket was.next ∙ same ∙ sym (length-set counts bucket (get_or counts bucket 0 - 1))

      taken : k.chain bucket ≡ l ∷ ls
          → IsPopped (lists_from slots firsts counts) bucket was.item (lists_from S' F' C')
      unfolding kept
      taken is = record {
        taken =
            lists_are slots firsts lasts counts free spare used nodes k same bucket ∙ ap items_of is
            ∙ ap (λ i. i ∷ items_of ls) (sym item_is)
            ∙ ap (λ xs. was.item ∷ xs) (sym (lists_are S' F' lasts C' F (spare + 1) used nodes kept kept_same bucket ∙ ap items_of (at_same bucket ls k.chain bucket refl)));
        others = λ x ne.
            lists_are S' F' lasts C' F (spare + 1) used nodes kept kept_same x ∙ ap items_of (at_other bucket ls k.chain x ne)
            ∙ sym (lists_are slots firsts lasts counts free spare used nodes k same x);
      }

    pub popped : get_or counts bucket 0 ≢ 0
        → IsLinked S' F' lasts C' F (spare + 1) used nodes × IsPopped (lists_from slots firsts counts) bucket was.item (lists_from S' F' C')
    popped some = go (k.chain bucket) (k.linked bucket) (k.counted bucket) (k.ended bucket) (k.owned bucket) (k.once bucket) refl
      where
        go : (ls : List Link) → Chain slots F ls → length ls ≡ get_or counts bucket 0
            → EndsAt (get_or lasts bucket 0) ls → Belong k.owner (suc bucket) ls → Once ls
            → k.chain bucket ≡ ls
            → IsLinked S' F' lasts C' F (spare + 1) used nodes × IsPopped (lists_from slots firsts counts) bucket was.item (lists_from S' F' C')
        go [] c n ends own once e = absurd (some (sym n))
        go (l ∷ ls) c n ends own once e = (kept l ls c n ends own once, taken l ls c n ends own once e)

  -- the first spare node goes to the end of the list
  module _ (item : Item) (long_lasts : length lasts ≡ length firsts) (behind mark : ℕ) (spare_is : IsSpare slots k.chain k.owner free behind (spare - 1) mark nodes) (some : 0 < spare) where
    abbrev new : Link
    new = link free item

    abbrev L₁ : List ℕ
    L₁ = set lasts bucket free

    abbrev C₁ : List ℕ
    C₁ = set counts bucket (get_or counts bucket 0 + 1)

    abbrev S₁ : List (Option Node)
    S₁ = write slots free item 0

    abbrev others : List Link
    others = spare_is.others

    unused_1 : (i : ℕ) → mark ≤ i → node_at S₁ i ≡ None
    unused_1 i le = get_or-set_other slots free i (Some (node item 0)) None (λ e. absurd (omega (arith, e, le, spare_is.below))) ∙ spare_is.unused i le

    module _ (T : List (Option Node)) (F₁ : List ℕ) (long : length F₁ ≡ length firsts) (here : Chain T (get_or F₁ bucket 0) (k.chain bucket ++ new ∷ []))
        (there : (x : ℕ) → x ≢ bucket → Chain T (get_or F₁ x 0) (k.chain x)) (rest : ChainTo T behind others mark) (unused : (i : ℕ) → mark ≤ i → node_at T i ≡ None) where
      after_push : IsLinked T F₁ L₁ C₁ behind (spare - 1) mark nodes
      after_push = record {
        chain = at bucket (k.chain bucket ++ new ∷ []) k.chain;
        owner = at free (suc bucket) k.owner;
        linked = everywhere (λ x xs. Chain T (get_or F₁ x 0) xs) bucket (k.chain bucket ++ new ∷ []) k.chain here there;
        counted = everywhere (λ x xs. length xs ≡ get_or C₁ x 0) bucket (k.chain bucket ++ new ∷ []) k.chain
            (let now = get_or-set_same counts bucket (get_or counts bucket 0 + 1) 0 (omega (arith, same, lt)) in
            omega (arith, now, length_push (k.chain bucket) new, k.counted bucket))
            (λ x ne. k.counted x ∙ sym (get_or-set_other counts bucket x (get_or counts bucket 0 + 1) 0 ne));
        ended = everywhere (λ x xs. EndsAt (get_or L₁ x 0) xs) bucket (k.chain bucket ++ new ∷ []) k.chain
            (subst (λ p. EndsAt p (k.chain bucket ++ new ∷ [])) (sym (get_or-set_same lasts bucket free 0 (omega (arith, long_lasts, lt)))) (ends_push (k.chain bucket) new))
            (λ x ne. subst (λ p. EndsAt p (k.chain x)) (sym (get_or-set_other lasts bucket x free 0 ne)) (k.ended x));
        owned = everywhere (λ x xs. Belong (at free (suc bucket) k.owner) (suc x) xs) bucket (k.chain bucket ++ new ∷ []) k.chain
            (belong_push (at free (suc bucket) k.owner) (suc bucket) (k.chain bucket) new
            (belong_at k.owner (suc bucket) free (suc bucket) (k.chain bucket) (spare_is.apart bucket) (k.owned bucket)) (at_same free (suc bucket) k.owner free refl))
            (λ x ne. belong_at k.owner (suc x) free (suc bucket) (k.chain x) (spare_is.apart x) (k.owned x));
        once = everywhere (λ x xs. Once xs) bucket (k.chain bucket ++ new ∷ []) k.chain (once_push (k.chain bucket) new (k.once bucket) (spare_is.apart bucket)) (λ x ne. k.once x);
        spares = others;
        spares_linked = rest;
        spares_counted = spare_is.counted;
        spares_owned = belong_at k.owner 0 free (suc bucket) others spare_is.besides spare_is.owned;
        spares_once = spare_is.once;
        unused = unused;
        all = let all = sum_by-set (λ x. x) counts bucket (get_or counts bucket 0 + 1) 0 (omega (arith, same, lt)) in omega (arith, all, k.all, some);
      }

      pushed_same : length F₁ ≡ length C₁
      pushed_same = long ∙ same ∙ sym (length-set counts bucket (get_or counts bucket 0 + 1))

      put_last : IsPushed (lists_from slots firsts counts) bucket item (lists_from T F₁ C₁)
      unfolding after_push
      put_last = record {
        added =
            lists_are T F₁ L₁ C₁ behind (spare - 1) mark nodes after_push pushed_same bucket ∙ ap items_of (at_same bucket (k.chain bucket ++ new ∷ []) k.chain bucket refl)
            ∙ items_push (k.chain bucket) new
            ∙ ap (λ xs. xs ++ item ∷ []) (sym (lists_are slots firsts lasts counts free spare used nodes k same bucket));
        others = λ x ne.
            lists_are T F₁ L₁ C₁ behind (spare - 1) mark nodes after_push pushed_same x ∙ ap items_of (at_other bucket (k.chain bucket ++ new ∷ []) k.chain x ne)
            ∙ sym (lists_are slots firsts lasts counts free spare used nodes k same x);
      }

    abbrev F₁ : List ℕ
    F₁ = set firsts bucket free

    -- into an empty list
    pub pushed_first : get_or counts bucket 0 ≡ 0
        → IsLinked S₁ F₁ L₁ C₁ behind (spare - 1) mark nodes × IsPushed (lists_from slots firsts counts) bucket item (lists_from S₁ F₁ C₁)
    pushed_first none =
        let empty : k.chain bucket ≡ [] = nil_from_length (k.chain bucket) (k.counted bucket ∙ none) in
        let begins : Chain S₁ (get_or F₁ bucket 0) (new ∷ []) = (sym (get_or-set_same firsts bucket free 0 lt), (0, ap (λ p. node_at S₁ p) (get_or-set_same firsts bucket free 0 lt) ∙ written slots free item 0 spare_is.inside, tt)) in
        let here : Chain S₁ (get_or F₁ bucket 0) (k.chain bucket ++ new ∷ []) = subst (λ xs. Chain S₁ (get_or F₁ bucket 0) (xs ++ new ∷ [])) (sym empty) begins in
        let there : (x : ℕ) → x ≢ bucket → Chain S₁ (get_or F₁ x 0) (k.chain x) = λ x ne. subst (λ p. Chain S₁ p (k.chain x)) (sym (get_or-set_other firsts bucket x free 0 ne))
        (chain_set slots free (Some (node item 0)) (get_or firsts x 0) (k.chain x) (spare_is.apart x) (k.linked x)) in
        let rest : ChainTo S₁ behind others mark = spares_set slots free (Some (node item 0)) behind others mark spare_is.besides spare_is.linked in
        (after_push S₁ F₁ (length-set firsts bucket free) here there rest unused_1, put_last S₁ F₁ (length-set firsts bucket free) here there rest unused_1)

    abbrev E : ℕ
    E = get_or lasts bucket 0

    -- into a list that has an item
    module _ (w : Node) (at_end : node_at S₁ E ≡ Some w) where
      abbrev S₂ : List (Option Node)
      S₂ = set S₁ E (Some (node w.item free))

      unused_2 : (i : ℕ) → mark ≤ i → node_at S₂ i ≡ None
      unused_2 i le =
          get_or-set_other S₁ E i (Some (node w.item free)) None (λ e. some_none w (sym at_end ∙ ap (λ j. node_at S₁ j) (sym e) ∙ unused_1 i le)) ∙ unused_1 i le

      pub pushed_behind : get_or counts bucket 0 ≢ 0
          → IsLinked S₂ firsts L₁ C₁ behind (spare - 1) mark nodes × IsPushed (lists_from slots firsts counts) bucket item (lists_from S₂ firsts C₁)
      pushed_behind more = go (k.chain bucket) refl (k.ended bucket) (k.owned bucket)
        where
          go : (ms : List Link) → k.chain bucket ≡ ms → EndsAt E ms → Belong k.owner (suc bucket) ms
              → IsLinked S₂ firsts L₁ C₁ behind (spare - 1) mark nodes × IsPushed (lists_from slots firsts counts) bucket item (lists_from S₂ firsts C₁)
          go [] is ends belongs = absurd (more (sym (k.counted bucket) ∙ ap length is))
          go (m ∷ ms) is ends belongs =
              let owner_end : k.owner E ≡ suc bucket = ends_owned k.owner (suc bucket) E m ms ends belongs in
              let value : Option Node = Some (node item 0) in
              let then : Option Node = Some (node w.item free) in
              let before : Chain S₁ (get_or firsts bucket 0) (m ∷ ms) = subst (λ xs. Chain S₁ (get_or firsts bucket 0) xs) is
              (chain_set slots free value (get_or firsts bucket 0) (k.chain bucket) (spare_is.apart bucket) (k.linked bucket)) in
              let here : Chain S₂ (get_or firsts bucket 0) (k.chain bucket ++ new ∷ []) = subst (λ xs. Chain S₂ (get_or firsts bucket 0) (xs ++ new ∷ [])) (sym is)
              (chain_push S₁ (get_or firsts bucket 0) E free item 0 w m ms before (subst Once is (k.once bucket)) ends
              (subst (IsFree free) is (spare_is.apart bucket)) (written slots free item 0 spare_is.inside) at_end) in
              let there : (x : ℕ) → x ≢ bucket → Chain S₂ (get_or firsts x 0) (k.chain x) = λ x ne.
              chain_set S₁ E then (get_or firsts x 0) (k.chain x) (free_of k.owner (suc x) E (k.chain x) (k.owned x) (λ e. ne (omega (arith, e, owner_end))))
              (chain_set slots free value (get_or firsts x 0) (k.chain x) (spare_is.apart x) (k.linked x)) in
              let rest : ChainTo S₂ behind others mark = spares_set S₁ E then behind others mark (free_of k.owner 0 E others spare_is.owned (λ e. absurd (omega (arith, e, owner_end))))
              (spares_set slots free value behind others mark spare_is.besides spare_is.linked) in
              (after_push S₂ firsts refl here there rest unused_2, put_last S₂ firsts refl here there rest unused_2)

-- a place keeps being filled where a node is put into a place
pub filled_set : (slots : List (Option Node)) (q : ℕ) (n : Node) (p : ℕ) → q < length slots
    → IsFilled slots p → IsFilled (set slots q (Some n)) p
filled_set slots q n p lt at_p = elim (cases_eq p q) [
  | inl e ↦ (n, ap (λ k. node_at (set slots q (Some n)) k) e ∙ get_or-set_same slots q (Some n) None lt)
  | inr ne ↦ (at_p.0, get_or-set_other slots q p (Some n) None ne ∙ at_p.1)
]

no_items : (ls : List Link) → items_of ls ≡ [] → length ls ≡ 0
no_items [] e = refl
no_items (l ∷ ls) e = cc

module _ (slots : List (Option Node)) (firsts lasts counts : List ℕ) (free spare used nodes : ℕ) (k : IsLinked slots firsts lasts counts free spare used nodes) (same : length firsts ≡ length counts) where
  pub empty_at : (bucket : ℕ) → get_or counts bucket 0 ≡ 0
      → list_at (lists_from slots firsts counts) bucket ≡ []
  empty_at bucket none =
      lists_are slots firsts lasts counts free spare used nodes k same bucket ∙ ap items_of (nil_from_length (k.chain bucket) (k.counted bucket ∙ none))

  pub some_at : (bucket : ℕ) → get_or counts bucket 0 ≢ 0
      → list_at (lists_from slots firsts counts) bucket ≢ []
  some_at bucket some e =
      some (sym (k.counted bucket) ∙ no_items (k.chain bucket) (sym (lists_are slots firsts lasts counts free spare used nodes k same bucket) ∙ e))

pub none_at : (bucket n : ℕ) → get_or {A = ℕ} (replicate n 0) bucket 0 ≡ 0
none_at bucket zero = refl
none_at zero (suc n) = refl
none_at (suc bucket) (suc n) = none_at bucket n

-- no node is used
pub all_spare : (slots : List (Option Node)) (n : ℕ) → ((i : ℕ) → node_at slots i ≡ None)
    → IsLinked slots (replicate 48 0) (replicate 48 0) (replicate 48 0) 0 n 0 n
all_spare slots n unused = record {
  chain = λ bucket. [];
  owner = λ q. 0;
  linked = λ bucket. tt;
  counted = λ bucket. sym (none_at bucket 48);
  ended = λ bucket. tt;
  owned = λ bucket. tt;
  once = λ bucket. tt;
  spares = [];
  spares_linked = refl;
  spares_counted = omega arith;
  spares_owned = tt;
  spares_once = tt;
  unused = λ i le. unused i;
  all = omega arith;
}

pub lists_long : (slots : List (Option Node)) (firsts counts : List ℕ)
    → length firsts ≡ length counts → length (lists_from slots firsts counts) ≡ length counts
unfolding lists_from
lists_long slots [] [] e = refl
lists_long slots [] (n ∷ ns) e = absurd (omega (arith, e))
lists_long slots (f ∷ fs) [] e = absurd (omega (arith, e))
lists_long slots (f ∷ fs) (n ∷ ns) e = omega (arith, lists_long slots fs ns (omega (arith, e)))
