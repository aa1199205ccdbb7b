-- Inner spans that hold a number, counted over the rows that have one.
use Rattle.std.proofs.Common.{◌≡◌, ℕ, ◌+◌, ◌-◌, ◌<◌, ◌≤◌, List, [], ◌∷◌, ◌++◌, length, get_or, take, map, count_by, cond, arith, false, Option, None, Some, IfSome, IsNone, ap, ◌∙◌}
use Rattle.std.specs.Prelude.{ℤ, ◌<ℤ◌}
use Rattle.std.proofs.lemmas.Int.{ints}
use Rattle.std.proofs.lemmas.List.{map_more, map-append}
use Rattle.std.proofs.lemmas.List.Sums.{sum_by-append, sum_by-cons}
use Rattle.std.proofs.lemmas.Grind.{common_steps}
use Rattle.sat_model.specs.declared.rows.Row.{Row}
use Rattle.grid_model.specs.declared.spans.Span.{Span}
use Rattle.grid_model.specs.Boxes.{GridBox}
use Rattle.sat_model.specs.ClockSpans.{inner_spans, NoneIsShownInner, IsLeastShownInner}
use Rattle.sat_model.specs.Relaxed.{holds, ends, LiesInRelaxed}
use Rattle.relaxed_meet.specs.Kept.{IsLeastIn}

abbrev pub held : ℤ → List (ℤ × ℤ) → ℕ
held b spans = count_by (λ s. holds s b) spans

no_number : (lo hi b : ℤ) → hi <ℤ lo → holds (lo, hi) b ≡ false
no_number lo hi b h = grind (arith, ints)

held_one : (b : ℤ) (s : ℤ × ℤ) → held b (s ∷ []) ≡ cond (holds s b) 1 0
held_one b s = omega (arith, sum_by-cons (λ t. cond (holds t b) 1 0) s [])

held_append : (b : ℤ) (xs ys : List (ℤ × ℤ)) → held b (xs ++ ys) ≡ held b xs + held b ys
held_append b xs ys = sum_by-append (λ t. cond (holds t b) 1 0) xs ys

-- one more row is read, and its span pushed
pub held_pushed : (f : Row → ℤ × ℤ) (xs : List Row) (i : ℕ) (x : Row) (v w : List Span) (y : Span) (b : ℤ)
    → i < length xs → x ≡ get_or xs i x
    → held b (map ends v) ≡ held b (map f (take i xs)) → w ≡ v ++ y ∷ [] → ends y ≡ f x
    → held b (map ends w) ≡ held b (map f (take (i + 1) xs))
held_pushed f xs i x v w y b within reads had now is =
    let e = map_more f xs i x within in
    let m = map-append ends v (y ∷ []) in
    let g = held_append b (map ends v) (ends y ∷ []) in
    let h = held_append b (map f (take i xs)) (f (get_or xs i x) ∷ []) in
    cc

-- one more row is read, which has none
pub held_skipped : (f : Row → ℤ × ℤ) (xs : List Row) (i : ℕ) (x : Row) (v w : List Span) (b : ℤ)
    → i < length xs → x ≡ get_or xs i x
    → held b (map ends v) ≡ held b (map f (take i xs)) → w ≡ v → (f x).1 <ℤ (f x).0
    → held b (map ends w) ≡ held b (map f (take (i + 1) xs))
held_skipped f xs i x v w b within reads had now none =
    let e = map_more f xs i x within in
    let h = held_append b (map f (take i xs)) (f (get_or xs i x) ∷ []) in
    let one = held_one b (f x) in
    let no = no_number (f x).0 (f x).1 b none in
    let zero_held : held b (f x ∷ []) ≡ 0 = one ∙ ap (λ t. cond t 1 0) no in
    let zero_here : held b (f (get_or xs i x) ∷ []) ≡ 0 = cc in
    let more : held b (map f (take (i + 1) xs)) ≡ held b (map f (take i xs)) + 0 = cc in
    let same : held b (map ends w) ≡ held b (map ends v) = cc in
    omega arith

-- all rows were read
pub held_all : (f : Row → ℤ × ℤ) (xs : List Row) (i : ℕ) (v : List Span) → length xs ≤ i
    → ((b : ℤ) → held b (map ends v) ≡ held b (map f (take i xs))) → (b : ℤ)
    → held b (map ends v) ≡ held b (map f xs)
held_all f xs i v done had b =
    let same : take i xs ≡ xs = grind (arith, common_steps) in
    rw same at had b

pub none_inner : (rows : List Row) (part : GridBox) (q need : ℕ) (v : List Span) (r : Option ℤ)
    → need ≡ length rows - q
    → ((b : ℤ) → held b (map ends v) ≡ held b (inner_spans part rows))
    → IsLeastIn (LiesInRelaxed (map ends v) need) r → IsNone r → NoneIsShownInner rows part q
none_inner rows part q need v None n same none e b h = none b (omega (arith, same b, h))
none_inner rows part q need v (Some x) n same least e b h = absurd cc

pub least_inner : (rows : List Row) (part : GridBox) (q need : ℕ) (v : List Span) (r : Option ℤ)
    → need ≡ length rows - q
    → ((b : ℤ) → held b (map ends v) ≡ held b (inner_spans part rows))
    → IsLeastIn (LiesInRelaxed (map ends v) need) r
    → IfSome r (λ b. IsLeastShownInner rows part q b)
least_inner rows part q need v None n same none = tt
least_inner rows part q need v (Some x) n same least = record {
  shown = omega (arith, same x, least.0);
  least = λ b h. least.1 b (omega (arith, same b, h));
}
