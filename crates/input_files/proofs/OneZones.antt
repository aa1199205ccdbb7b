-- A text of zones and directions stands for one value.
use Rattle.std.proofs.Common.{◌≡◌, ℕ, zero, suc, ◌^◌, ◌<◌, Bool, true, false, List, [], ◌∷◌, ◌++◌, map, refl, sym, ap, subst, ◌∙◌, arith}
use Rattle.std.specs.Prelude.{ℤ, pos, negsuc}
use Rattle.std.specs.Fmt.{signed_decimal}
use Rattle.std.proofs.lemmas.Fmt.{decimal_injective}
use Rattle.std.proofs.lemmas.Int.{ints}
use lib.Signed.{mag}
use Rattle.grid_model.specs.Sizes.{IsWithin}
use Rattle.grid_model.specs.declared.boxes.Pos.{Pos}
use Rattle.log_tokens.proofs.DigitLemmas.{one_spelled}
use Rattle.log_tokens.proofs.NumberLemmas.{one_place}
use Rattle.log_tokens.specs.Fields.{IsPosWithin, pos_words}
use Rattle.zone_guard.specs.Lines.{ZoneValue, zone_words}
use Rattle.zone_guard.specs.Planes.{PlaneValue}
use Rattle.zone_guard.specs.Text.{lines, IsNewZone, AreZones, AreZonesIn}
use Rattle.zone_guard.specs.Watched.{Kind, Corners, Sides, Pieces, Along, KindFits, WatchLine, Named, Side, line_words, IsSide, FormValue, BoxValue, PrismValue, GroupValue, ReachValue, form_lines, WatchValue, watch_lines, zone_watch}
use Rattle.zone_guard.specs.WatchText.{IsFirstUnfit, IsNextLine, names_with, owed_with, AreWatchLines, AreWatchesIn, IsWatchesText}
use Rattle.input_files.specs.Zones.{ZonesValue, SpellsZones, NamesUnfit}
use Rattle.input_files.specs.declared.notice.Notice.{Notice}
use Rattle.input_files.specs.declared.notice.Notice.TheVariants as notice
use Rattle.zone_guard.proofs.WatchTextLemmas.{other_heads}

-- ---- the places of a line

same_place : (p q : Pos) → (p.x ≡ q.x) × (p.y ≡ q.y) × (p.z ≡ q.z) → p ≡ q
same_place p q (x, y, z) = λ i. record { x = x i; y = y i; z = z i }

one_corners : (a b c d : Pos) → IsPosWithin 10000000000000 a → IsPosWithin 10000000000000 b
    → IsPosWithin 10000000000000 c → IsPosWithin 10000000000000 d
    → pos_words a ++ pos_words b ≡ pos_words c ++ pos_words d → (a ≡ c) × (b ≡ d)
one_corners a b c d a_fits b_fits c_fits d_fits e =
    let behind : pos_words b ≡ pos_words d = cc in (
      same_place a c (one_place 10000000000000 (pos_words a ++ pos_words b) (pos_words b) (pos_words d) a c (omega arith) a_fits c_fits refl e),
      same_place b d (one_place 10000000000000 (pos_words b) [] [] b d (omega arith) b_fits d_fits refl behind),
    )

one_along : (a b : Pos) (rest more : List (List ℕ)) → IsPosWithin 1048576 a → IsPosWithin 1048576 b
    → pos_words a ++ rest ≡ pos_words b ++ more → a ≡ b
one_along a b rest more a_fits b_fits e = same_place a b (one_place 1048576 (pos_words a ++ rest) rest more a b (omega arith) a_fits b_fits refl e)

mag_fits : (n : ℤ) → IsWithin 100000000000000000000 n → mag n < 2 ^ 127
mag_fits (pos k) within = omega (arith, ints, within.high)
mag_fits (negsuc k) within = omega (arith, ints, within.low)

-- ---- a line

record IsOneName (n m : List ℕ) (k l : Kind) : Type 0 where
  name : n ≡ m
  kind : k ≡ l

one_named : (n m : List ℕ) (k l : Kind) → KindFits k → KindFits l
    → line_words (Named n k) ≡ line_words (Named m l) → IsOneName n m k l
one_named n m (Corners a b) (Corners c d) f g e =
    let behind : pos_words a ++ pos_words b ≡ pos_words c ++ pos_words d = cc in
    let both = one_corners a b c d f.lo_within f.hi_within g.lo_within g.hi_within behind in
    record { name = cc; kind = λ i. Corners (both.0 i) (both.1 i) }
one_named n m (Corners a b) (Sides c) f g e = absurd cc
one_named n m (Corners a b) (Pieces c d) f g e = absurd cc
one_named n m (Corners a b) (Along c) f g e = absurd cc
one_named n m (Sides a) (Corners c d) f g e = absurd cc
one_named n m (Sides a) (Sides c) f g e =
    record { name = cc; kind = ap Sides (decimal_injective a c (omega (arith, f.1)) (omega (arith, g.1)) cc) }
one_named n m (Sides a) (Pieces c d) f g e = absurd cc
one_named n m (Sides a) (Along c) f g e = absurd cc
one_named n m (Pieces a b) (Corners c d) f g e = absurd cc
one_named n m (Pieces a b) (Sides c) f g e = absurd cc
one_named n m (Pieces a b) (Pieces c d) f g e =
    let count : a ≡ c = decimal_injective a c (omega (arith, f.0.1)) (omega (arith, g.0.1)) cc in
    let each : b ≡ d = decimal_injective b d (omega (arith, f.1.1)) (omega (arith, g.1.1)) cc in
    record { name = cc; kind = λ i. Pieces (count i) (each i) }
one_named n m (Pieces a b) (Along c) f g e = absurd cc
one_named n m (Along a) (Corners c d) f g e = absurd cc
one_named n m (Along a) (Sides c) f g e = absurd cc
one_named n m (Along a) (Pieces c d) f g e = absurd cc
one_named n m (Along a) (Along c) f g e =
    let behind : pos_words a ++ [] ≡ pos_words c ++ [] = cc in
    record { name = cc; kind = ap Along (one_along a c [] [] f.within g.within behind) }

one_side : (s t : PlaneValue) → IsSide s → IsSide t → line_words (Side s) ≡ line_words (Side t)
    → s ≡ t
one_side s t f g e =
    let behind : pos_words s.along ++ signed_decimal s.most ∷ [] ≡ pos_words t.along ++ signed_decimal t.most ∷ [] = cc in
    let along : s.along ≡ t.along = one_along s.along t.along (signed_decimal s.most ∷ []) (signed_decimal t.most ∷ []) f.along.within g.along.within behind in
    let most : s.most ≡ t.most = one_spelled s.most t.most (mag_fits s.most f.most) (mag_fits t.most g.most) cc in
    λ i. record { along = along i; most = most i }

one_next : (names : List (List ℕ)) (owed : ℕ) (line : List ℕ) (l k : WatchLine)
    → IsNextLine names owed line l → IsNextLine names owed line k → l ≡ k
one_next names zero line (Named n a) (Named m b) x y =
    let one = one_named n m a b x.fits.1 y.fits.1 (sym x.spelled ∙ y.spelled) in
    λ i. Named (one.name i) (one.kind i)
one_next names zero line (Named n a) (Side s) x y = absurd y.due
one_next names zero line (Side s) k x y = absurd x.due
one_next names (suc owed) line (Named n a) k x y = absurd x.due
one_next names (suc owed) line (Side s) (Named m b) x y = absurd y.due
one_next names (suc owed) line (Side s) (Side t) x y = ap Side (one_side s t x.fits y.fits (sym x.spelled ∙ y.spelled))

one_lines : (names : List (List ℕ)) (owed : ℕ) (text : List (List ℕ)) (ls ks : List WatchLine)
    → AreWatchLines names owed text ls → AreWatchLines names owed text ks → ls ≡ ks
one_lines names owed [] ls ks a b = absurd a
one_lines names owed (last ∷ []) [] [] a b = refl
one_lines names owed (last ∷ []) [] (k ∷ ks) a b = absurd b
one_lines names owed (last ∷ []) (l ∷ ls) ks a b = absurd a
one_lines names owed (here ∷ next ∷ more) [] ks a b = absurd a
one_lines names owed (here ∷ next ∷ more) (l ∷ ls) [] a b = absurd b
one_lines names owed (here ∷ next ∷ more) (l ∷ ls) (k ∷ ks) a b =
    let same : l ≡ k = one_next names owed here l k a.0 b.0 in
    let there = subst (λ (m : WatchLine). AreWatchLines (names_with names m) (owed_with owed m) (next ∷ more) ls) same a.1 in
    let rest : ls ≡ ks = one_lines (names_with names k) (owed_with owed k) (next ∷ more) ls ks there b.1 in
    λ i. same i ∷ rest i

-- ---- what the lines name

record IsOneForm (n m : List ℕ) (f g : FormValue) (xs ys : List WatchLine) : Type 0 where
  name : n ≡ m
  form : f ≡ g
  rest : xs ≡ ys

-- the lines of what has a name begin with that name
named_first : (n : List ℕ) (f : FormValue) (s : PlaneValue) (xs ys : List WatchLine)
    → form_lines n f ++ xs ≡ Side s ∷ ys → ⊥
named_first n (BoxValue a b) s xs ys e = cc
named_first n (PrismValue t) s xs ys e = cc
named_first n (GroupValue a b t) s xs ys e = cc
named_first n (ReachValue a) s xs ys e = cc

no_side_first : (ws : List WatchValue) (s : PlaneValue) (ys : List WatchLine)
    → watch_lines ws ≡ Side s ∷ ys → ⊥
no_side_first [] s ys e = cc
no_side_first (w ∷ ws) s ys e = named_first w.name w.form s (watch_lines ws) ys e

-- so sides end where the next name stands
one_sides : (s t : List PlaneValue) (vs ws : List WatchValue)
    → map Side s ++ watch_lines vs ≡ map Side t ++ watch_lines ws
    → (s ≡ t) × (watch_lines vs ≡ watch_lines ws)
one_sides [] [] vs ws e = (refl, e)
one_sides [] (y ∷ t) vs ws e = absurd (no_side_first vs y (map Side t ++ watch_lines ws) e)
one_sides (x ∷ s) [] vs ws e = absurd (no_side_first ws x (map Side s ++ watch_lines vs) (sym e))
one_sides (x ∷ s) (y ∷ t) vs ws e =
    let head : x ≡ y = cc in
    let more : map Side s ++ watch_lines vs ≡ map Side t ++ watch_lines ws = cc in
    let rest = one_sides s t vs ws more in
    (λ i. head i ∷ rest.0 i, rest.1)

one_form : (n m : List ℕ) (f g : FormValue) (vs ws : List WatchValue)
    → form_lines n f ++ watch_lines vs ≡ form_lines m g ++ watch_lines ws
    → IsOneForm n m f g (watch_lines vs) (watch_lines ws)
one_form n m (BoxValue a b) (BoxValue c d) vs ws e =
    let lo : a ≡ c = cc in
    let hi : b ≡ d = cc in
    record { name = cc; form = λ i. BoxValue (lo i) (hi i); rest = cc }
one_form n m (BoxValue a b) (PrismValue t) vs ws e = absurd cc
one_form n m (BoxValue a b) (GroupValue c d t) vs ws e = absurd cc
one_form n m (BoxValue a b) (ReachValue c) vs ws e = absurd cc
one_form n m (PrismValue s) (BoxValue c d) vs ws e = absurd cc
one_form n m (PrismValue s) (PrismValue t) vs ws e =
    let more : map Side s ++ watch_lines vs ≡ map Side t ++ watch_lines ws = cc in
    let both = one_sides s t vs ws more in
    record { name = cc; form = ap PrismValue both.0; rest = both.1 }
one_form n m (PrismValue s) (GroupValue c d t) vs ws e = absurd cc
one_form n m (PrismValue s) (ReachValue c) vs ws e = absurd cc
one_form n m (GroupValue a b s) (BoxValue c d) vs ws e = absurd cc
one_form n m (GroupValue a b s) (PrismValue t) vs ws e = absurd cc
one_form n m (GroupValue a b s) (GroupValue c d t) vs ws e =
    let count : a ≡ c = cc in
    let each : b ≡ d = cc in
    let more : map Side s ++ watch_lines vs ≡ map Side t ++ watch_lines ws = cc in
    let both = one_sides s t vs ws more in
    record { name = cc; form = λ i. GroupValue (count i) (each i) (both.0 i); rest = both.1 }
one_form n m (GroupValue a b s) (ReachValue c) vs ws e = absurd cc
one_form n m (ReachValue a) (BoxValue c d) vs ws e = absurd cc
one_form n m (ReachValue a) (PrismValue t) vs ws e = absurd cc
one_form n m (ReachValue a) (GroupValue c d t) vs ws e = absurd cc
one_form n m (ReachValue a) (ReachValue c) vs ws e =
    let along : a ≡ c = cc in
    record { name = cc; form = ap ReachValue along; rest = cc }

some_lines : (n : List ℕ) (f : FormValue) (xs : List WatchLine) → [] ≡ form_lines n f ++ xs → ⊥
some_lines n (BoxValue a b) xs e = cc
some_lines n (PrismValue s) xs e = cc
some_lines n (GroupValue a b s) xs e = cc
some_lines n (ReachValue a) xs e = cc

one_list : (vs ws : List WatchValue) → watch_lines vs ≡ watch_lines ws → vs ≡ ws
one_list [] [] e = refl
one_list [] (w ∷ ws) e = absurd (some_lines w.name w.form (watch_lines ws) e)
one_list (v ∷ vs) [] e = absurd (some_lines v.name v.form (watch_lines vs) (sym e))
one_list (v ∷ vs) (w ∷ ws) e =
    let one = one_form v.name w.name v.form w.form vs ws e in
    let rest : vs ≡ ws = one_list vs ws one.rest in
    λ i. record { name = one.name i; form = one.form i } ∷ rest i

one_second : (ls : List (List ℕ)) (vs ws : List WatchValue) → AreWatchesIn ls vs
    → AreWatchesIn ls ws → vs ≡ ws
one_second [] vs ws a b = absurd a
one_second (first ∷ rest) vs ws a b = one_list vs ws (one_lines [] 0 rest (watch_lines vs) (watch_lines ws) a.1 b.1)

-- ---- the first form

one_zone : (names : List (List ℕ)) (line : List ℕ) (y z : ZoneValue) → IsNewZone names line y
    → IsNewZone names line z → y ≡ z
one_zone names line y z a b =
    let same : zone_words y ≡ zone_words z = sym a.spelled ∙ b.spelled in
    let name : y.name ≡ z.name = cc in
    let behind : pos_words y.lo ++ pos_words y.hi ≡ pos_words z.lo ++ pos_words z.hi = cc in
    let both = one_corners y.lo y.hi z.lo z.hi a.fits.lo_within a.fits.hi_within b.fits.lo_within b.fits.hi_within behind in
    λ i. record { name = name i; lo = both.0 i; hi = both.1 i }

one_zones : (names : List (List ℕ)) (text : List (List ℕ)) (ys zs : List ZoneValue)
    → AreZones names text ys → AreZones names text zs → ys ≡ zs
one_zones names [] ys zs a b = absurd a
one_zones names (last ∷ []) [] [] a b = refl
one_zones names (last ∷ []) [] (z ∷ zs) a b = absurd b
one_zones names (last ∷ []) (y ∷ ys) zs a b = absurd a
one_zones names (here ∷ next ∷ more) [] zs a b = absurd a
one_zones names (here ∷ next ∷ more) (y ∷ ys) [] a b = absurd b
one_zones names (here ∷ next ∷ more) (y ∷ ys) (z ∷ zs) a b =
    let same : y ≡ z = one_zone names here y z a.0 b.0 in
    let there = subst (λ (x : ZoneValue). AreZones (names ++ x.name ∷ []) (next ∷ more) ys) same a.1 in
    let rest : ys ≡ zs = one_zones (names ++ z.name ∷ []) (next ∷ more) ys zs there b.1 in
    λ i. same i ∷ rest i

one_first : (ls : List (List ℕ)) (ys zs : List ZoneValue) → AreZonesIn ls ys → AreZonesIn ls zs
    → ys ≡ zs
one_first [] ys zs a b = absurd a
one_first (first ∷ rest) ys zs a b = one_zones [] rest ys zs a.1 b.1

-- ---- either form

one_head : (ls : List (List ℕ)) (vs : List WatchValue) (zs : List ZoneValue) → AreWatchesIn ls vs
    → AreZonesIn ls zs → ⊥
one_head [] vs zs a b = absurd a
one_head (first ∷ rest) vs zs a b = other_heads first b.0 a.0

one_text : (bytes : List ℕ) (s t : Bool) (vs ws : List WatchValue) → IsWatchesText s vs bytes
    → IsWatchesText t ws bytes → (s ≡ t) × (vs ≡ ws)
one_text bytes true true vs ws a b = (refl, one_second (lines bytes) vs ws a b)
one_text bytes true false vs ws a b = absurd (one_head (lines bytes) vs b.0 a b.2)
one_text bytes false true vs ws a b = absurd (one_head (lines bytes) ws a.0 b a.2)
one_text bytes false false vs ws a b =
    (refl, a.1 ∙ ap (map zone_watch) (one_first (lines bytes) a.0 b.0 a.2 b.2) ∙ sym b.1)

pub one_value : (bytes : List ℕ) (v w : ZonesValue) → SpellsZones bytes v → SpellsZones bytes w
    → v ≡ w
one_value bytes v w a b =
    let both = one_text bytes v.is_second w.is_second v.watches w.watches a b in
    λ i. record { is_second = both.0 i; watches = both.1 i }

-- what was read has no line that doesn't fit
pub named_no_text : (bytes : List ℕ) → ((line : ℕ) → IsFirstUnfit bytes line → ⊥) → (n : Notice)
    → NamesUnfit bytes n → ⊥
named_no_text bytes none (notice.BadZones line) names = none line names
named_no_text bytes none _ names = names
