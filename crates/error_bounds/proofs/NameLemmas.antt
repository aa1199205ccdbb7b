-- The names of a tree.
use Rattle.std.proofs.Common.{◌≡◌, ◌<◌, false, List, map, length, ◌++◌, append_assoc, String, Global, string_bytes, ap, ◌∙◌}
use Rattle.std.proofs.lemmas.List.{get_or-map, length-map}
use Rattle.std.specs.List.{All, Contains}
use Rattle.std.specs.Ordering.{is_lt}
use Rattle.std.specs.String.{string_cmp}
use Rattle.error_bounds.specs.Names.{IsFirstName}

pub first_of_texts : (xs : List (String Global)) (x : String Global) → Contains xs x
    → All (λ other. is_lt (string_cmp other x) ≡ false) xs
    → IsFirstName (map string_bytes xs) (string_bytes x)
first_of_texts xs x (k, bound, here) first = record {
  among = (k, rw (length-map xs (string_bytes {Z = Global})) bound, get_or-map string_bytes xs k x (string_bytes x) bound ∙ ap string_bytes here);
  first = λ i d within.
      let inside : i < length xs = rw (length-map xs (string_bytes {Z = Global})) at within in
      rw (get_or-map string_bytes xs i x d inside) (first i x inside);
}

seven_joined : {X : Type 0} (a b c d e f g : List X)
    → (((((a ++ b) ++ c) ++ d) ++ e) ++ f) ++ g ≡ a ++ (b ++ (c ++ (d ++ (e ++ (f ++ g)))))
seven_joined a b c d e f g =
    append_assoc ((((a ++ b) ++ c) ++ d) ++ e) f g
    ∙ (append_assoc (((a ++ b) ++ c) ++ d) e (f ++ g)
    ∙ (append_assoc ((a ++ b) ++ c) d (e ++ (f ++ g))
    ∙ (append_assoc (a ++ b) c (d ++ (e ++ (f ++ g))) ∙ append_assoc a b (c ++ (d ++ (e ++ (f ++ g)))))))

-- lists that are added one behind another
pub all_added : {X : Type 0} (a b c d e f g h n1 n2 n3 n4 n5 n6 n7 n8 : List X)
    → n1 ≡ a → n2 ≡ n1 ++ b → n3 ≡ n2 ++ c → n4 ≡ n3 ++ d → n5 ≡ n4 ++ e → n6 ≡ n5 ++ f
    → n7 ≡ n6 ++ g → n8 ≡ n7 ++ h
    → n8 ≡ a ++ (b ++ (c ++ (d ++ (e ++ (f ++ (g ++ h))))))
all_added a b c d e f g h n1 n2 n3 n4 n5 n6 n7 n8 e1 e2 e3 e4 e5 e6 e7 e8 =
    rw (e8, e7, e6, e5, e4, e3, e2, e1)
    (append_assoc ((((((a ++ b) ++ c) ++ d) ++ e) ++ f)) g h ∙ seven_joined a b c d e f (g ++ h))
