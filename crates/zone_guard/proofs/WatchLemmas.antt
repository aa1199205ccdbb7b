-- A text of the second form is read line by line, and has one first line that doesn't fit.
use Rattle.std.proofs.Common.{◌≡◌, ℕ, zero, suc, ◌+◌, ◌-◌, ◌<◌, ◌≤◌, List, [], ◌∷◌, ◌++◌, length, map, inl, inr, refl, sym, ap, subst, ◌∙◌, append-nil, append_assoc, arith}
use Rattle.std.specs.List.{Contains}
use Rattle.std.proofs.lemmas.Fmt.{decimal_injective}
use Rattle.std.proofs.lemmas.Grind.{common_steps}
use Rattle.log_tokens.specs.Words.{words}
use Rattle.zone_guard.specs.Planes.{PlaneValue, plane_value, plane_values}
use Rattle.zone_guard.specs.Text.{lines}
use Rattle.zone_guard.specs.Told.{IsToldIn}
use Rattle.zone_guard.specs.Watched.{Kind, Corners, Sides, Pieces, Along, KindFits, WatchLine, Named, Side, LineFits, line_words, IsSide, FormValue, BoxValue, PrismValue, GroupValue, ReachValue, form_lines, watch_lines}
use Rattle.zone_guard.specs.WatchLeads.{Leads, later_lines, form_kind}
use Rattle.zone_guard.specs.WatchText.{IsDue, IsNextLine, names_with, owed_for, owed_with, AreWatchLines, FailsAt}
use Rattle.zone_guard.specs.WatchValues.{watch_values, watch_names, form_value}
use Rattle.zone_guard.specs.declared.planes.HalfSpace.{HalfSpace}
use Rattle.zone_guard.specs.declared.watch.Watch.{Watch}
use Rattle.zone_guard.specs.declared.zone.ZoneError.{ZoneError}
use Rattle.zone_guard.proofs.LineLemmas.{lines_some}

-- ---- one reading

-- a line leads to one state
record IsOneState (names : List (List ℕ)) (owed : ℕ) (l k : WatchLine) : Type 0 where
  same_names : names_with names l ≡ names_with names k
  same_owed : owed_with owed l ≡ owed_with owed k

one_name : (a b c d : List ℕ) (x y : List (List ℕ)) → a ∷ c ∷ x ≡ b ∷ d ∷ y → c ≡ d
one_name a b c d x y e = cc

one_kind : (k l : Kind) (n m : List ℕ) → KindFits k → KindFits l
    → line_words (Named n k) ≡ line_words (Named m l) → owed_for k ≡ owed_for l
one_kind (Corners a b) (Corners c d) n m f g e = refl
one_kind (Corners a b) (Sides c) n m f g e = absurd cc
one_kind (Corners a b) (Pieces c d) n m f g e = absurd cc
one_kind (Corners a b) (Along c) n m f g e = absurd cc
one_kind (Sides a) (Corners c d) n m f g e = absurd cc
one_kind (Sides a) (Sides c) n m f g e = decimal_injective a c (omega (arith, f.1)) (omega (arith, g.1)) cc
one_kind (Sides a) (Pieces c d) n m f g e = absurd cc
one_kind (Sides a) (Along c) n m f g e = absurd cc
one_kind (Pieces a b) (Corners c d) n m f g e = absurd cc
one_kind (Pieces a b) (Sides c) n m f g e = absurd cc
one_kind (Pieces a b) (Pieces c d) n m f g e =
    let count = decimal_injective a c (omega (arith, f.0.1)) (omega (arith, g.0.1)) cc in
    let each = decimal_injective b d (omega (arith, f.1.1)) (omega (arith, g.1.1)) cc in
    cc (count, each)
one_kind (Pieces a b) (Along c) n m f g e = absurd cc
one_kind (Along a) (Corners c d) n m f g e = absurd cc
one_kind (Along a) (Sides c) n m f g e = absurd cc
one_kind (Along a) (Pieces c d) n m f g e = absurd cc
one_kind (Along a) (Along c) n m f g e = refl

one_state : (names : List (List ℕ)) (owed : ℕ) (line : List ℕ) (l k : WatchLine)
    → IsNextLine names owed line l → IsNextLine names owed line k → IsOneState names owed l k
one_state names zero line (Named n a) (Named m b) x y =
    let same = sym x.spelled ∙ y.spelled in
    record { same_names = ap (λ (name : List ℕ). names ++ name ∷ []) (one_name _ _ n m _ _ same); same_owed = one_kind a b n m x.fits.1 y.fits.1 same }
one_state names zero line (Named n a) (Side s) x y = absurd y.due
one_state names zero line (Side s) k x y = absurd x.due
one_state names (suc owed) line (Named n a) k x y = absurd x.due
one_state names (suc owed) line (Side s) (Named m b) x y = absurd y.due
one_state names (suc owed) line (Side s) (Side t) x y = record { same_names = refl; same_owed = refl }

pub not_both : (names : List (List ℕ)) (owed number : ℕ) (text : List (List ℕ)) (ls : List WatchLine) (k : ℕ)
    → AreWatchLines names owed text ls → FailsAt names owed number text k → ⊥
not_both names owed number [] ls k are fails = absurd are
not_both names owed number (last ∷ []) [] k are fails = elim fails.0 [ inl cut ↦ cut are.0 | inr due ↦ due are.1 ]
not_both names owed number (last ∷ []) (l ∷ ls) k are fails = absurd are
not_both names owed number (here ∷ next ∷ more) [] k are fails = absurd are
not_both names owed number (here ∷ next ∷ more) (l ∷ ls) k are (inl f) = f.0 l are.0
not_both names owed number (here ∷ next ∷ more) (l ∷ ls) k are (inr f) =
    let one = one_state names owed here f.0 l f.1 are.0 in
    not_both (names_with names l) (owed_with owed l) (number + 1) (next ∷ more) ls k are.1 (rw (one.same_names, one.same_owed) at f.2)

pub one_line : (names : List (List ℕ)) (owed number : ℕ) (text : List (List ℕ)) (j k : ℕ)
    → FailsAt names owed number text j → FailsAt names owed number text k → j ≡ k
one_line names owed number [] j k a b = a ∙ sym b
one_line names owed number (last ∷ []) j k a b = a.1 ∙ sym b.1
one_line names owed number (here ∷ next ∷ more) j k (inl a) (inl b) = a.1 ∙ sym b.1
one_line names owed number (here ∷ next ∷ more) j k (inl a) (inr b) = absurd (a.0 b.0 b.1)
one_line names owed number (here ∷ next ∷ more) j k (inr a) (inl b) = absurd (b.0 a.0 a.1)
one_line names owed number (here ∷ next ∷ more) j k (inr a) (inr b) =
    let one = one_state names owed here a.0 b.0 a.1 b.1 in
    one_line (names_with names b.0) (owed_with owed b.0) (number + 1) (next ∷ more) j k (rw (one.same_names, one.same_owed) at a.2) b.2

-- ---- lines one behind another

pub leads_none : (names : List (List ℕ)) (owed number : ℕ) (text : List (List ℕ))
    → Leads names owed number text [] names owed number text
leads_none names owed number text = record { on = λ rest are. are; fails = λ k f. f }

module _ (a : List (List ℕ)) (o n : ℕ) (t : List (List ℕ)) (ls : List WatchLine) (b : List (List ℕ)) (p m : ℕ) (u : List (List ℕ)) where
  pub leads_then : (ms : List WatchLine) (c : List (List ℕ)) (q k : ℕ) (v : List (List ℕ))
      → Leads a o n t ls b p m u → Leads b p m u ms c q k v → Leads a o n t (ls ++ ms) c q k v
  leads_then ms c q k v x y = record {
    on = λ rest are. rw (append_assoc ls ms rest) (x.on (ms ++ rest) (y.on rest are));
    fails = λ line f. x.fails line (y.fails line f);
  }

line_more : (names : List (List ℕ)) (owed : ℕ) (here : List ℕ) (rest : List (List ℕ)) (l : WatchLine) (ls : List WatchLine)
    → (rest ≡ [] → ⊥) → IsNextLine names owed here l
    → AreWatchLines (names_with names l) (owed_with owed l) rest ls
    → AreWatchLines names owed (here ∷ rest) (l ∷ ls)
line_more names owed here [] l ls some next are = absurd (some refl)
line_more names owed here (r ∷ more) l ls some next are = (next, are)

later_fails : (names : List (List ℕ)) (owed number : ℕ) (here : List ℕ) (rest : List (List ℕ)) (l : WatchLine) (k : ℕ)
    → (rest ≡ [] → ⊥) → IsNextLine names owed here l
    → FailsAt (names_with names l) (owed_with owed l) (number + 1) rest k
    → FailsAt names owed number (here ∷ rest) k
later_fails names owed number here [] l k some next fails = absurd (some refl)
later_fails names owed number here (r ∷ more) l k some next fails = inr (l, next, fails)

here_fails : (names : List (List ℕ)) (owed number : ℕ) (here : List ℕ) (rest : List (List ℕ))
    → (rest ≡ [] → ⊥) → ((l : WatchLine) → IsNextLine names owed here l → ⊥)
    → FailsAt names owed number (here ∷ rest) number
here_fails names owed number here [] some none = absurd (some refl)
here_fails names owed number here (r ∷ more) some none = inl (none, refl)

module _ (names : List (List ℕ)) (owed number : ℕ) (text here behind : List ℕ) (cut : lines text ≡ here ∷ lines behind) where
  pub leads_line : (l : WatchLine) → IsNextLine names owed here l
      → Leads names owed number (lines text) (l ∷ []) (names_with names l) (owed_with owed l) (number + 1) (lines behind)
  leads_line l next = record {
    on = λ rest are. rw cut (line_more names owed here (lines behind) l rest (lines_some behind) next are);
    fails = λ k f. rw cut (later_fails names owed number here (lines behind) l k (lines_some behind) next f);
  }

  pub unfit_here : ((l : WatchLine) → IsNextLine names owed here l → ⊥)
      → FailsAt names owed number (lines text) number
  unfit_here none = rw cut (here_fails names owed number here (lines behind) (lines_some behind) none)

-- a side is owed
pub owed_here : (names : List (List ℕ)) (owed number : ℕ) (text : List ℕ) → lines text ≡ text ∷ []
    → 0 < owed → FailsAt names owed number (lines text) number
owed_here names owed number text one some = rw one (inr (λ e. omega (arith, some, e)), refl)

-- ---- sides

side_due : (names : List (List ℕ)) (owed : ℕ) (s : PlaneValue) → 0 < owed
    → IsDue names owed (Side s)
side_due names zero s some = absurd (omega arith)
side_due names (suc owed) s some = tt

no_name_due : (names : List (List ℕ)) (owed : ℕ) (name : List ℕ) (kind : Kind) → 0 < owed
    → IsDue names owed (Named name kind) → ⊥
no_name_due names zero name kind some due = omega arith
no_name_due names (suc owed) name kind some due = due

pub no_side : (names : List (List ℕ)) (owed : ℕ) (here : List ℕ) → 0 < owed
    → ((s : PlaneValue) → IsSide s → words here ≡ line_words (Side s) → ⊥) → (l : WatchLine)
    → IsNextLine names owed here l → ⊥
no_side names owed here some none (Named name kind) next = no_name_due names owed name kind some next.due
no_side names owed here some none (Side s) next = none s next.fits next.spelled

-- so many sides so far
pub record AreSidesTo (text : List ℕ) (first count : ℕ) (sides : List HalfSpace) (number : ℕ) (left : List ℕ) : Type 0 where
  pub leads : (names : List (List ℕ))
      → Leads names count first (lines text) (map Side (plane_values sides)) names (count - length sides) number (lines left)
  pub few : length sides ≤ count
  pub at : number ≡ first + length sides
  pub room : length sides + length left ≤ length text

less_none : (count : ℕ) → count ≡ count - 0
less_none count = omega arith

pub no_sides : (text : List ℕ) (first count : ℕ) → AreSidesTo text first count [] first text
no_sides text first count = record { leads = λ names. subst (λ (owed : ℕ). Leads names count first (lines text) [] names owed first (lines text)) (less_none count) (leads_none names count first (lines text)); few = omega arith; at = omega arith; room = omega arith }

sides_more : (sides : List HalfSpace) (s : HalfSpace)
    → map Side (plane_values (sides ++ s ∷ [])) ≡ map Side (plane_values sides) ++ Side (plane_value s) ∷ []
sides_more [] s = refl
sides_more (t ∷ sides) s = ap (λ (ls : List WatchLine). Side (plane_value t) ∷ ls) (sides_more sides s)

length_more : {X : Type 0} (xs : List X) (x : X) → length (xs ++ x ∷ []) ≡ length xs + 1
length_more xs x = grind (arith, common_steps)

one_owed_less : (count n m : ℕ) → m ≡ n + 1 → (count - n) - 1 ≡ count - m
one_owed_less count n m e = omega (arith, e)

pub side_more : (text : List ℕ) (first count : ℕ) (sides items : List HalfSpace) (number : ℕ) (left here behind : List ℕ) (s : HalfSpace)
    → AreSidesTo text first count sides number left → length sides < count
    → lines left ≡ here ∷ lines behind → length behind + 1 ≤ length left → IsSide (plane_value s)
    → words here ≡ line_words (Side (plane_value s)) → items ≡ sides ++ s ∷ []
    → AreSidesTo text first count items (number + 1) behind
side_more text first count sides items number left here behind s so less cut shorter fits spelled is =
    let longer = length_more sides s in
    rw is (record {
      leads = λ names.
          let next : IsNextLine names (count - length sides) here (Side (plane_value s)) = record { fits = fits; spelled = spelled; due = side_due names (count - length sides) (plane_value s) (omega (arith, less)) } in
          rw (sides_more sides s) (subst (λ (owed : ℕ). Leads names count first (lines text) (map Side (plane_values sides) ++ Side (plane_value s) ∷ []) names owed (number + 1) (lines behind))
          (one_owed_less count (length sides) (length (sides ++ s ∷ [])) longer)
          (leads_then names count first (lines text) (map Side (plane_values sides)) names (count - length sides) number (lines left) (Side (plane_value s) ∷ []) names ((count - length sides) - 1) (number + 1) (lines behind)
          (so.leads names) (leads_line names (count - length sides) number left here behind cut (Side (plane_value s)) next)));
      few = omega (arith, less, longer);
      at = omega (arith, so.at, longer);
      room = omega (arith, so.room, shorter, longer);
    })

pub sides_done : (text : List ℕ) (first count : ℕ) (sides : List HalfSpace) (number : ℕ) (left : List ℕ)
    → AreSidesTo text first count sides number left → count ≤ length sides
    → (names : List (List ℕ))
    → Leads names count first (lines text) (map Side (plane_values sides)) names 0 (first + count) (lines left)
sides_done text first count sides number left so all names =
    let whole : length sides ≡ count = omega (arith, so.few, all) in
    let none : count - length sides ≡ 0 = omega (arith, whole) in
    let at : number ≡ first + count = omega (arith, so.at, whole) in
    subst (λ (n : ℕ). Leads names count first (lines text) (map Side (plane_values sides)) names 0 n (lines left)) at
    (subst (λ (owed : ℕ). Leads names count first (lines text) (map Side (plane_values sides)) names owed number (lines left)) none (so.leads names))

-- ---- what has a name

lines_of_form : (name : List ℕ) (form : FormValue)
    → form_lines name form ≡ Named name (form_kind form) ∷ later_lines form
lines_of_form name (BoxValue lo hi) = refl
lines_of_form name (PrismValue sides) = refl
lines_of_form name (GroupValue count each sides) = refl
lines_of_form name (ReachValue a) = refl

pub no_opening : (names : List (List ℕ)) (here : List ℕ)
    → ((name : List ℕ) (kind : Kind) → LineFits (Named name kind) → words here ≡ line_words (Named name kind) → ⊥)
    → (l : WatchLine) → IsNextLine names 0 here l → ⊥
no_opening names here none (Named name kind) next = none name kind next.fits next.spelled
no_opening names here none (Side s) next = absurd next.due

pub taken_twice : (names : List (List ℕ)) (here name : List ℕ) (kind : Kind)
    → words here ≡ line_words (Named name kind) → Contains names name → (l : WatchLine)
    → IsNextLine names 0 here l → ⊥
taken_twice names here name kind spelled taken (Named other k) next =
    next.due (subst (λ (n : List ℕ). Contains names n) (one_name _ _ name other _ _ (sym spelled ∙ next.spelled)) taken)
taken_twice names here name kind spelled taken (Side s) next = absurd next.due

pub watch_leads : (names : List (List ℕ)) (number : ℕ) (text here behind : List ℕ) (name : List ℕ) (kind : Kind) (form : FormValue) (after : ℕ) (left : List ℕ)
    → lines text ≡ here ∷ lines behind
    → IsNextLine names 0 here (Named name kind) → form_kind form ≡ kind
    → Leads (names ++ name ∷ []) (owed_for kind) (number + 1) (lines behind) (later_lines form) (names ++ name ∷ []) 0 after (lines left)
    → Leads names 0 number (lines text) (form_lines name form) (names ++ name ∷ []) 0 after (lines left)
watch_leads names number text here behind name kind form after left cut next is later =
    rw (lines_of_form name form, is)
    (leads_then names 0 number (lines text) (Named name kind ∷ []) (names ++ name ∷ []) (owed_for kind) (number + 1) (lines behind) (later_lines form) (names ++ name ∷ []) 0 after (lines left)
    (leads_line names 0 number text here behind cut (Named name kind) next) later)

-- ---- a list of them

names_more : (watches : List Watch) (w : Watch)
    → watch_names (watches ++ w ∷ []) ≡ watch_names watches ++ w.name.bytes ∷ []
names_more [] w = refl
names_more (v ∷ watches) w = ap (λ (l : List (List ℕ)). v.name.bytes ∷ l) (names_more watches w)

lines_more : (watches : List Watch) (w : Watch)
    → watch_lines (watch_values (watches ++ w ∷ [])) ≡ watch_lines (watch_values watches) ++ form_lines w.name.bytes (form_value w.form)
lines_more [] w = append-nil (form_lines w.name.bytes (form_value w.form))
lines_more (v ∷ watches) w =
    ap (λ (l : List WatchLine). form_lines v.name.bytes (form_value v.form) ++ l) (lines_more watches w)
    ∙ sym (append_assoc (form_lines v.name.bytes (form_value v.form)) (watch_lines (watch_values watches)) (form_lines w.name.bytes (form_value w.form)))

abbrev pub IsListedTo : List ℕ → List Watch → ℕ → List ℕ → Type 0
IsListedTo text watches number left = Leads [] 0 2 (lines text) (watch_lines (watch_values watches)) (watch_names watches) 0 number (lines left)

pub listed_more : (text : List ℕ) (watches items : List Watch) (number : ℕ) (left behind : List ℕ) (w : Watch) (after : ℕ)
    → IsListedTo text watches number left → items ≡ watches ++ w ∷ []
    → Leads (watch_names watches) 0 number (lines left) (form_lines w.name.bytes (form_value w.form)) (watch_names watches ++ w.name.bytes ∷ []) 0 after (lines behind)
    → IsListedTo text items after behind
listed_more text watches items number left behind w after so is next =
    rw (is, lines_more watches w, names_more watches w)
    (leads_then [] 0 2 (lines text) (watch_lines (watch_values watches)) (watch_names watches) 0 number (lines left) (form_lines w.name.bytes (form_value w.form)) (watch_names watches ++ w.name.bytes ∷ []) 0 after (lines behind) so next)

pub listed_all : (text : List ℕ) (watches : List Watch) (number : ℕ) (left : List ℕ)
    → IsListedTo text watches number left → left ≡ []
    → AreWatchLines [] 0 (lines text) (watch_lines (watch_values watches))
listed_all text watches number left so none =
    subst (λ (l : List WatchLine). AreWatchLines [] 0 (lines text) l) (append-nil (watch_lines (watch_values watches))) (so.on [] (rw none (refl, refl)))

pub told_mapped : (e : ZoneError) (F G : ℕ → Type 0) → ((k : ℕ) → F k → G k) → IsToldIn F e
    → IsToldIn G e
told_mapped e F G on told = elim told [
  | inl none ↦ inl none
  | inr (k, same, fails) ↦ inr (k, same, on k fails)
]
