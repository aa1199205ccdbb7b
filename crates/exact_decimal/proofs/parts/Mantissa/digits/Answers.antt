use Rattle.std.proofs.Common.{◌≡◌, ℕ, ◌++◌, sym, ap, ◌∙◌, to_z-of_z, FitsSigned, w64, rules}
use Rattle.std.specs.Str.Parse.{digits_value_after, digits_value}
use Rattle.exact_decimal.specs.NumberFields.{signed}
use Rattle.exact_decimal.proofs.Digits.{ten_power, after-append, are_few, room_behind}
use Rattle.exact_decimal.proofs.parts.Mantissa.digits.Goals as goal

pub number_after-whole-requires-clause-room : goal.number_after-whole-requires-clause-room
number_after-whole-requires-clause-room c = ten_power _

pub number_after-requires-clause-room : goal.number_after-requires-clause-room
number_after-requires-clause-room c =
    room_behind c.number_after-whole.result c.args.self.now.whole.now c.args.self.now.fraction.now c.requires.whole
    (are_few _ _ c.requires.some) c.number_after-whole.ensures.value

pub returns : goal.returns
returns c =
    let amount : c.number_after.result ≡ digits_value 10 (c.args.self.now.whole.now ++ c.args.self.now.fraction.now) =
    c.number_after.ensures.value ∙ (ap (λ n. digits_value_after 10 n c.args.self.now.fraction.now) c.number_after-whole.ensures.value
    ∙ sym (after-append 0 c.args.self.now.whole.now c.args.self.now.fraction.now)) in
    let fits : FitsSigned w64 c.signed_by.result = search rules in
    simp to_z-of_z (c.signed_by.ensures ∙ ap (λ (n : ℕ). signed c.args.self.now.negative n) amount)
