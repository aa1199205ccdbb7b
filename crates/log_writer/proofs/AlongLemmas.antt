-- Bounds along directions: one list of them behind another, and how many lines they have.
use Rattle.std.proofs.Common.{◌≡◌, ℕ, ◌+◌, ◌*◌, ◌≤◌, arith, List, [], ◌∷◌, ◌++◌, length, map, take, drop, Ok, Err, Result, Some, inl, inr, refl, sym, ap, subst, ◌∙◌, append-nil, length-append, take-append-drop}
use Rattle.std.specs.Prelude.{ℤ, pos, negsuc}
use Rattle.std.specs.List.{flat_map, AllByRecursion}
use Rattle.std.proofs.lemmas.Int.{ints}
use Rattle.std.proofs.lemmas.List.{map-append, length-map}
use Rattle.std.proofs.lemmas.List.Concat.{flat_map-append}
use Rattle.bound_directions.specs.declared.direction.Direction.{Direction}
use Rattle.bound_search.specs.Directions.{IsAlong}
use Rattle.grid_model.specs.Boxes.{GridBox, IsInside}
use Rattle.grid_model.specs.Sizes.{IsWithin}
use Rattle.sat_model.specs.Bounds.{BoundValue}
use Rattle.sat_model.specs.Events.{Event, RowsOver, rows_over}
use Rattle.sat_model.specs.HalfSpaces.{FormsShow, ShowHalfSpace}
use Rattle.sat_model.specs.MovedFaces.{box_under}
use Rattle.sat_model.specs.Pairs.{FormValue}
use Rattle.sat_model.specs.ShownBounds.{rows_behind, IsBoundShown, AreShownOver}
use Rattle.sat_model.specs.declared.row_sums.RowSum.{RowSum}
use Rattle.sat_model.specs.declared.rows.Row.{Row}
use Rattle.log_lines.specs.declared.line.LogLine.{LogLine}
use Rattle.log_lines.specs.declared.line.LogLine.TheVariants as line
use Rattle.log_lines.specs.Lines.{LineFits}
use Rattle.log_lines.specs.Text.{bound_lines, BoundFits}
use Rattle.log_writer.specs.declared.fault.WriteFault.{WriteFault}
use Rattle.log_writer.specs.Bounding.{AreAxes, AreAlong}
use Rattle.log_writer.specs.Found.{left_by, AreFormsOver, AreFound, WroteFound}
use Rattle.log_writer.specs.Pieces.{Piece, alone}
use Rattle.log_writer.specs.Sizes.{most_bounds}
use Rattle.log_writer.specs.Writing.{Seen, Written}
use Rattle.log_writer.proofs.GridSizes.{all_append}
use Rattle.log_writer.proofs.SatLemmas.{IsItemAt, one_longer}
use Rattle.log_writer.proofs.WritingLemmas.{went_none, written_behind}

-- ---- one list behind another

along_rest : (xs ys : List Direction) (cs : List BoundValue) → AreAlong ys cs → AreAlong (xs ++ ys) cs
along_rest [] ys cs along = along
along_rest (x ∷ xs) ys [] along = tt
along_rest (x ∷ xs) ys (c ∷ cs) along = inr (along_rest xs ys (c ∷ cs) along)

pub along_both : (xs ys : List Direction) (bs cs : List BoundValue) → AreAlong xs bs
    → AreAlong ys cs → AreAlong (xs ++ ys) (bs ++ cs)
along_both xs ys [] cs first later = along_rest xs ys cs later
along_both [] ys (b ∷ bs) cs first later = absurd first
along_both (x ∷ xs) ys (b ∷ bs) cs (inl (is, first)) later = inl (is, along_both xs ys bs cs first later)
along_both (x ∷ xs) ys (b ∷ bs) cs (inr first) later = inr (along_both xs ys (b ∷ bs) cs first later)

pub along_none : (list : List Direction) → AreAlong list []
along_none [] = tt
along_none (d ∷ list) = tt

pub along_front : (xs ys : List Direction) (bs : List BoundValue) → AreAlong xs bs
    → AreAlong (xs ++ ys) bs
along_front xs ys [] first = along_none (xs ++ ys)
along_front [] ys (b ∷ bs) first = absurd first
along_front (x ∷ xs) ys (b ∷ bs) (inl (is, first)) = inl (is, along_front xs ys bs first)
along_front (x ∷ xs) ys (b ∷ bs) (inr first) = inr (along_front xs ys (b ∷ bs) first)

pub along_few : (list : List Direction) (bounds : List BoundValue) → AreAlong list bounds
    → length bounds ≤ length list
along_few list [] along = omega arith
along_few [] (b ∷ bounds) along = absurd along
along_few (d ∷ list) (b ∷ bounds) (inl (is, along)) = omega (arith, along_few list bounds along)
along_few (d ∷ list) (b ∷ bounds) (inr along) = omega (arith, along_few list (b ∷ bounds) along)

-- ---- the axes

axis : (x y z : ℤ) → IsWithin 1 x → IsWithin 1 y → IsWithin 1 z → Direction
axis x y z a b c = record { x = x; y = y; z = z; x_within = wide a; y_within = wide b; z_within = wide c }
  where
    wide : {n : ℤ} → IsWithin 1 n → IsWithin 1000000 n
    wide w = record { low = omega (arith, ints, w.low); high = omega (arith, ints, w.high) }

-- there are directions along the axes
pub some_axes : List Direction
some_axes =
    let none : IsWithin 1 (pos 0) = record { low = omega (arith, ints); high = omega (arith, ints) } in
    let up : IsWithin 1 (pos 1) = record { low = omega (arith, ints); high = omega (arith, ints) } in
    let down : IsWithin 1 (negsuc 0) = record { low = omega (arith, ints); high = omega (arith, ints) } in
    axis (pos 1) (pos 0) (pos 0) up none none ∷ axis (negsuc 0) (pos 0) (pos 0) down none none
    ∷ axis (pos 0) (pos 1) (pos 0) none up none ∷ axis (pos 0) (negsuc 0) (pos 0) none down none
    ∷ axis (pos 0) (pos 0) (pos 1) none none up ∷ axis (pos 0) (pos 0) (negsuc 0) none none down ∷ []

pub are_axes : AreAxes some_axes
unfolding some_axes axis
are_axes = refl

-- with 64 directions they are 70
pub axes_few : (axes list : List Direction) → AreAxes axes → length list ≤ 64
    → length (axes ++ list) ≤ most_bounds
axes_few axes list are few =
    omega (arith, few, length-append axes list, length-map {B = ℤ × ℤ × ℤ} axes (λ (d : Direction). (d.x, d.y, d.z)), ap length are)

-- ---- what is left of a hull

left_twice : (hull : GridBox) (bs cs : List BoundValue)
    → left_by hull (bs ++ cs) ≡ left_by (left_by hull bs) cs
left_twice hull [] cs = refl
left_twice hull (b ∷ bs) cs = left_twice (box_under b.half hull) bs cs

shown_twice : (q : ℕ) (first : RowsOver) (events : List Event) (hull : GridBox) (bs cs : List BoundValue)
    → AreShownOver q first events (Some hull) bs → AreShownOver q first events (Some (left_by hull bs)) cs
    → AreShownOver q first events (Some hull) (bs ++ cs)
shown_twice q first events hull [] cs f g = g
shown_twice q first events hull (b ∷ bs) cs f g = (f.0, shown_twice q first events (box_under b.half hull) bs cs f.1 g)

-- a half-space that is shown has a sum
pub some_sum : (forms : List FormValue) (part : GridBox) (q : ℕ) (b : BoundValue)
    → FormsShow forms part q b.half b.sums → 1 ≤ length b.sums
some_sum forms part q b shows =
    let (s, has, survives) = shows.survives [] (omega arith) in
    omega (arith, has.1)

-- ---- their pieces

abbrev pub found_pieces : List BoundValue → List Piece
found_pieces bounds = map alone (flat_map bound_lines bounds)

found_apart : (bs cs : List BoundValue) → found_pieces bs ++ found_pieces cs ≡ found_pieces (bs ++ cs)
found_apart bs cs =
    sym (map-append alone (flat_map bound_lines bs) (flat_map bound_lines cs)) ∙ ap (map alone) (sym (flat_map-append bound_lines bs cs))

-- ---- one bound

module _ (first : List Row) (used : RowsOver) (q : ℕ) where
  -- it is shown by the rows whose forms these are
  shown_one : (hull : GridBox) (forms : List FormValue) (b : BoundValue) → AreFormsOver first used hull forms
      → FormsShow forms hull q b.half b.sums → (root : GridBox) (events : List Event)
      → rows_behind (rows_over root first) events ≡ used
      → IsBoundShown q (rows_over root first) events (Some hull) b
  shown_one hull forms b (inl (inside, is)) shows root events behind = record {
    part = hull;
    is_hull = refl;
    over = rows_behind (rows_over root first) events;
    are_over = inl (subst (λ (u : RowsOver). IsInside hull u.part) (sym behind) inside, refl);
    shows = subst (λ (u : RowsOver). ShowHalfSpace u.rows hull q b.half b.sums) (sym behind)
        (subst (λ (fs : List FormValue). FormsShow fs hull q b.half b.sums) is shows);
  }
  shown_one hull forms b (inr (not, is)) shows root events behind = record {
    part = hull;
    is_hull = refl;
    over = rows_over root first;
    are_over = inr (λ inside. not (subst (λ (u : RowsOver). IsInside hull u.part) behind inside), refl);
    shows = subst (λ (fs : List FormValue). FormsShow fs hull q b.half b.sums) is shows;
  }

  pub wrote_none : {T : Type 0} (list : List Direction) (hull : GridBox) (a : Seen) (x : T)
      → WroteFound first used q list hull hull a (Ok x) a
  wrote_none list hull a x = record {
    bounds = [];
    found = record { along = along_none list; fit = tt; shown = λ root events behind. tt };
    leaves = refl;
    written = went_none a;
  }

  -- the one that was found
  pub wrote_one : {T : Type 0} (d : Direction) (b : BoundValue) (forms : List FormValue) (hull left : GridBox) (a c : Seen) (r : Result T WriteFault)
      → AreFormsOver first used hull forms → IsAlong d b.half → FormsShow forms hull q b.half b.sums
      → length b.sums ≤ 64 → left ≡ box_under b.half hull
      → Written a (map alone (bound_lines b)) r c → WroteFound first used q (d ∷ []) hull left a r c
  wrote_one d b forms hull left a c r are along shows few leaves written = record {
    bounds = b ∷ [];
    found = record {
      along = inl (along, tt);
      fit = ((some_sum forms hull q b shows, few), tt);
      shown = λ root events behind. (shown_one hull forms b are shows root events behind, tt);
    };
    leaves = leaves;
    written = subst (λ (ls : List LogLine). Written a (map alone ls) r c) (sym (append-nil (bound_lines b))) written;
  }

  -- ---- one list behind another

  -- along more directions, over what is left
  pub wrote_behind : {S T : Type 0} (xs ys : List Direction) (hull mid left : GridBox) (a b c : Seen) (x : S) (r : Result T WriteFault)
      → WroteFound first used q xs hull mid a (Ok x) b → WroteFound first used q ys mid left b r c
      → WroteFound first used q (xs ++ ys) hull left a r c
  wrote_behind xs ys hull mid left a b c x r f g =
      let over = subst (λ (h : GridBox). AreFound first used q ys h g.bounds) f.leaves g.found in
      record {
        bounds = f.bounds ++ g.bounds;
        found = record {
          along = along_both xs ys f.bounds g.bounds f.found.along g.found.along;
          fit = all_append BoundFits f.bounds g.bounds f.found.fit g.found.fit;
          shown = λ root events behind. shown_twice q (rows_over root first) events hull f.bounds g.bounds
              (f.found.shown root events behind) (over.shown root events behind);
        };
        leaves = g.leaves ∙ ap (λ (h : GridBox). left_by h g.bounds) f.leaves ∙ sym (left_twice hull f.bounds g.bounds);
        written = subst (λ (ps : List Piece). Written a ps r c) (found_apart f.bounds g.bounds)
            (written_behind a b c (found_pieces f.bounds) (found_pieces g.bounds) r f.written g.written);
      }

  -- a fault among some first directions is one among all
  pub wrote_front : {S T : Type 0} (xs ys : List Direction) (hull left : GridBox) (a c : Seen) (fault : WriteFault)
      → WroteFound {T = S} first used q xs hull left a (Err fault) c
      → WroteFound {T = T} first used q (xs ++ ys) hull left a (Err fault) c
  wrote_front xs ys hull left a c fault f = record {
    bounds = f.bounds;
    found = record { along = along_front xs ys f.bounds f.found.along; fit = f.found.fit; shown = f.found.shown };
    leaves = f.leaves;
    written = f.written;
  }

  -- one direction more
  pub wrote_more : {S T : Type 0} (list : List Direction) (i : ℕ) (d : Direction) (hull mid left : GridBox) (a b c : Seen) (x : S) (r : Result T WriteFault)
      → IsItemAt list i d → WroteFound first used q (take i list) hull mid a (Ok x) b
      → WroteFound first used q (d ∷ []) mid left b r c
      → WroteFound first used q (take (i + 1) list) hull left a r c
  wrote_more list i d hull mid left a b c x r at f g =
      subst (λ (l : List Direction). WroteFound first used q l hull left a r c) (one_longer list i d at)
      (wrote_behind (take i list) (d ∷ []) hull mid left a b c x r f g)

  pub wrote_ended : {S T U : Type 0} (list : List Direction) (i : ℕ) (d : Direction) (hull mid left : GridBox) (a b c : Seen) (x : S) (fault : WriteFault)
      → IsItemAt list i d → WroteFound first used q (take i list) hull mid a (Ok x) b
      → WroteFound {T = T} first used q (d ∷ []) mid left b (Err fault) c
      → WroteFound {T = U} first used q list hull left a (Err fault) c
  wrote_ended {S} {T} {U} list i d hull mid left a b c x fault at f g =
      subst (λ (l : List Direction). WroteFound {T = U} first used q l hull left a (Err fault) c) (take-append-drop (i + 1) list)
      (wrote_front {S = T} {T = U} (take (i + 1) list) (drop (i + 1) list) hull left a c fault
      (wrote_more list i d hull mid left a b c x (Err fault) at f g))

-- ---- how many lines they have

pub bound_count : (bounds : List BoundValue) → AllByRecursion BoundFits bounds
    → length (flat_map bound_lines bounds) ≤ 65 * length bounds
bound_count [] fit = omega arith
bound_count (b ∷ bounds) fit =
    omega (arith, bound_count bounds fit.1, fit.0.1, length-append (bound_lines b) (flat_map bound_lines bounds), length-map b.sums line.By)

sums_line : (sums : List RowSum) → AllByRecursion LineFits (map line.By sums)
sums_line [] = tt
sums_line (sum ∷ sums) = (tt, sums_line sums)

pub bounds_line : (bounds : List BoundValue) → AllByRecursion BoundFits bounds
    → AllByRecursion LineFits (flat_map bound_lines bounds)
bounds_line [] fit = tt
bounds_line (b ∷ bounds) fit = all_append LineFits (bound_lines b) (flat_map bound_lines bounds) (fit.0, sums_line b.sums) (bounds_line bounds fit.1)
