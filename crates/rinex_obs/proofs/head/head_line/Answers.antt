use Rattle.std.proofs.Common.{refl, sym, ◌∙◌, inl, inr, arith, to_z-of_z, FitsSigned, rules}
use mir.Syntax.{w128}
use Rattle.rinex_text.specs.Reading.{plain_line}
use Rattle.rinex_obs.proofs.HeadLemmas.{no_mark, no_flag, no_count, is_event, no_date, too_many, is_epoch, order_behind}
use Rattle.rinex_obs.proofs.head.head_line.Goals as goal
use Rattle.std.proofs.lemmas.Bool.{both_ways}

pub returns-then-not-is_short-clause-line : goal.returns-then-not-is_short-clause-line
returns-then-not-is_short-clause-line c = inr (λ s. both_ways _ c.if-not-is_short.true (c.is_short.ensures.1 s), refl)

pub returns-then-not-is_printable_text-clause-line : goal.returns-then-not-is_printable_text-clause-line
returns-then-not-is_printable_text-clause-line c =
    inl (c.is_short.ensures.0 c.if-not-is_short.false, inr (λ p. both_ways _ (sym c.is_printable_text.ensures ∙ c.if-not-is_printable_text.true) p, refl))

pub returns-then-column-ne62-clause-line : goal.returns-then-column-ne62-clause-line
returns-then-column-ne62-clause-line c =
    no_mark c.args.count c.args.before (plain_line c.args.line) (c.is_short.ensures.0 c.if-not-is_short.false) (sym c.is_printable_text.ensures ∙ c.if-not-is_printable_text.false)
    (λ e. absurd (omega (arith, e, c.column.ensures, c.if-column-ne62.true)))

pub returns-then-not-is_flag-clause-line : goal.returns-then-not-is_flag-clause-line
returns-then-not-is_flag-clause-line c =
    no_flag c.args.count c.args.before (plain_line c.args.line) (c.is_short.ensures.0 c.if-not-is_short.false) (sym c.is_printable_text.ensures ∙ c.if-not-is_printable_text.false)
    (sym c.column.ensures ∙ c.if-column-ne62.false) c.flag_digit-flag.result c.flag_digit-flag.ensures (λ f. both_ways _ c.if-not-is_flag.true (c.is_flag.ensures.1 f))

pub returns-in_default-clause-line : goal.returns-in_default-clause-line
returns-in_default-clause-line c =
    no_count c.args.count c.args.before (plain_line c.args.line) (c.is_short.ensures.0 c.if-not-is_short.false) (sym c.is_printable_text.ensures ∙ c.if-not-is_printable_text.false)
    (sym c.column.ensures ∙ c.if-column-ne62.false) c.flag_digit-flag.result c.flag_digit-flag.ensures (c.is_flag.ensures.0 c.if-not-is_flag.false) c.in_default.ensures.none

pub returns-then-flag-gt49-clause-line : goal.returns-then-flag-gt49-clause-line
returns-then-flag-gt49-clause-line c =
    is_event c.args.count c.args.before (plain_line c.args.line) (c.is_short.ensures.0 c.if-not-is_short.false) (sym c.is_printable_text.ensures ∙ c.if-not-is_printable_text.false)
    (sym c.column.ensures ∙ c.if-column-ne62.false) c.flag_digit-flag.result c.flag_digit-flag.ensures (c.is_flag.ensures.0 c.if-not-is_flag.false) c.in-Some.lines c.in-Some.ensures.lines
    (λ le. absurd (omega (arith, le, c.if-flag-gt49.true)))

pub returns-in_default-tag-clause-line : goal.returns-in_default-tag-clause-line
returns-in_default-tag-clause-line c =
    no_date c.args.count c.args.before (plain_line c.args.line) (c.is_short.ensures.0 c.if-not-is_short.false) (sym c.is_printable_text.ensures ∙ c.if-not-is_printable_text.false)
    (sym c.column.ensures ∙ c.if-column-ne62.false) c.flag_digit-flag.result c.flag_digit-flag.ensures (c.is_flag.ensures.0 c.if-not-is_flag.false) c.in-Some.lines c.in-Some.ensures.lines
    c.if-flag-gt49.false c.in_default-tag.ensures.none

pub returns-then-count-ge-MOST_EPOCHS-clause-line : goal.returns-then-count-ge-MOST_EPOCHS-clause-line
returns-then-count-ge-MOST_EPOCHS-clause-line c =
    too_many c.args.count c.args.before (plain_line c.args.line) (c.is_short.ensures.0 c.if-not-is_short.false) (sym c.is_printable_text.ensures ∙ c.if-not-is_printable_text.false)
    (sym c.column.ensures ∙ c.if-column-ne62.false) c.flag_digit-flag.result c.flag_digit-flag.ensures (c.is_flag.ensures.0 c.if-not-is_flag.false) c.in-Some.lines c.in-Some.ensures.lines
    c.if-flag-gt49.false c.in-Some-tag.tag c.in-Some-tag.ensures.tag (λ few. absurd (omega (arith, few, c.if-count-ge-MOST_EPOCHS.true)))

pub returns-clause-line : goal.returns-clause-line
returns-clause-line c =
    let fits : FitsSigned w128 c.in-Some-tag.tag = search rules in
    is_epoch c.args.count c.args.before (plain_line c.args.line) (c.is_short.ensures.0 c.if-not-is_short.false) (sym c.is_printable_text.ensures ∙ c.if-not-is_printable_text.false)
    (sym c.column.ensures ∙ c.if-column-ne62.false) c.flag_digit-flag.result c.flag_digit-flag.ensures (c.is_flag.ensures.0 c.if-not-is_flag.false) c.in-Some.lines c.in-Some.ensures.lines
    c.if-flag-gt49.false c.in-Some-tag.tag c.in_order.result c.in-Some-tag.ensures.tag c.if-count-ge-MOST_EPOCHS.false (simp to_z-of_z at c.in_order.ensures.order)

pub returns-clause-behind : goal.returns-clause-behind
returns-clause-behind c =
    let fits : FitsSigned w128 c.in-Some-tag.tag = search rules in
    order_behind c.args.count c.in-Some.lines c.in-Some-tag.tag c.in_order.result (c.in-Some-tag.ensures.from, c.in-Some-tag.ensures.under, c.if-count-ge-MOST_EPOCHS.false)
    (simp to_z-of_z at c.in_order.ensures.epoch)
