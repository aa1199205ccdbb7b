-- Columns of a line that is a row of cells.
use Rattle.std.proofs.Common.{◌≡◌, ℕ, ◌+◌, ◌-◌, ◌<◌, true, List, ◌++◌, length, drop, refl, ap, ◌∙◌, arith, length-append}
use lib.Seq.{take_at, take_all, drop-append-add}
use Rattle.std.specs.List.{list_all}
use Rattle.std.proofs.lemmas.Bool.{and_from}
use Rattle.std.proofs.lemmas.List.Folds.{list_all-append}
use Rattle.rinex_text.specs.Bodies.{is_printable}
use Rattle.rinex_text.specs.Columns.{columns_of}

-- so many printable bytes
pub record IsCell (n : ℕ) (text : List ℕ) : Type 0 where
  pub len : length text ≡ n
  pub printable : list_all is_printable text ≡ true

pub beside : (m n : ℕ) (a b : List ℕ) → IsCell m a → IsCell n b → IsCell (m + n) (a ++ b)
beside m n a b x y = record {
  len = length-append a b ∙ (rw (x.len, y.len) refl);
  printable = list_all-append is_printable a b ∙ and_from _ _ x.printable y.printable;
}

-- the columns of the first cell
pub here : (n : ℕ) (cell more : List ℕ) → length cell ≡ n → columns_of (cell ++ more) 1 n ≡ cell
here n cell more len =
    let whole : n - 0 ≡ n = omega arith in
    rw whole (take_at cell more n len)

pub last : (n : ℕ) (cell : List ℕ) → length cell ≡ n → columns_of cell 1 n ≡ cell
last n cell len =
    let whole : n - 0 ≡ n = omega arith in
    rw whole (take_all n cell (omega (arith, len)))

-- the columns behind it
pub behind : (n : ℕ) (cell more : List ℕ) (first last : ℕ) → length cell ≡ n → n < first
    → columns_of (cell ++ more) first last ≡ columns_of more (first - n) (last - n)
behind n cell more first last len after =
    let at : first - 1 ≡ length cell + (first - n - 1) = omega (arith, len) in
    let wide : last - (first - 1) ≡ last - n - (first - n - 1) = omega arith in
    let cut : drop (first - 1) (cell ++ more) ≡ drop (first - n - 1) more = ap (λ k. drop k (cell ++ more)) at ∙ drop-append-add cell more (first - n - 1) in
    rw (wide, cut) refl

-- three cells of 19 columns, and four
pub record AreThree (row a b c : List ℕ) : Type 0 where
  pub first : columns_of row 1 19 ≡ a
  pub second : columns_of row 20 38 ≡ b
  pub third : columns_of row 39 57 ≡ c

pub three_cells : (a b c : List ℕ) → length a ≡ 19 → length b ≡ 19 → length c ≡ 19
    → AreThree (a ++ (b ++ c)) a b c
three_cells a b c x y z = record {
  first = here 19 a (b ++ c) x;
  second = behind 19 a (b ++ c) 20 38 x (omega arith) ∙ here 19 b c y;
  third = behind 19 a (b ++ c) 39 57 x (omega arith) ∙ (behind 19 b c 20 38 y (omega arith) ∙ last 19 c z);
}

pub record AreFour (row a b c d : List ℕ) : Type 0 where
  pub first : columns_of row 1 19 ≡ a
  pub others : (columns_of row 20 38 ≡ b) × (columns_of row 39 57 ≡ c) × (columns_of row 58 76 ≡ d)

pub four_cells : (a b c d : List ℕ) → length a ≡ 19 → length b ≡ 19 → length c ≡ 19 → length d ≡ 19
    → AreFour (a ++ (b ++ (c ++ d))) a b c d
four_cells a b c d w x y z =
    let more = three_cells b c d x y z in
    record {
      first = here 19 a (b ++ (c ++ d)) w;
      others = (
        behind 19 a (b ++ (c ++ d)) 20 38 w (omega arith) ∙ more.first,
        behind 19 a (b ++ (c ++ d)) 39 57 w (omega arith) ∙ more.second,
        behind 19 a (b ++ (c ++ d)) 58 76 w (omega arith) ∙ more.third,
      );
    }
