-- Words that clap takes are those of a command, and each of its words has a text.
use Rattle.std.proofs.Common.{◌≡◌, ◌&&◌, ◌||◌, Bool, true, false, not, cond, List, [], ◌∷◌, Option, Some, None, inl, inr, refl, sym, ap, ◌∙◌}
use Rattle.std.specs.Prelude.{is_some, option_map}
use Rattle.std.specs.List.{list_any}
use Rattle.std.specs.Option.{option_map_or}
use Rattle.clap.specs.Facts.{explicit_source}
use Rattle.clap.specs.Kinds.{check_kinds}
use Rattle.clap.specs.Walk.{Text, Row, Rule, walk, walk_from, nothing_held, finished, settled, rows_after, answers_to, first_of}
use Rattle.clap.specs.Simple.{Shape, built, names_of, label_of, entered, rows_at}
use Rattle.clap.specs.Takes.{is_given}
use Rattle.clap.specs.Faults.{level_fault, walk_fault, settle_fault, defaults_fault, check_fault, entered_fault}
use Rattle.clap.proofs.OnLiterals.{clap_on_literals}
use Rattle.command_words.specs.Program.{program}
use Rattle.command_words.specs.Stated.{HaveTexts, SaysCommand, TakenIsCommand, file_ids, guard_ids}
use Rattle.command_words.proofs.FilledLemmas.{AllSet, Filled, both, walk_filled, finished_filled, given_text}
use Rattle.command_words.proofs.LevelLemmas.{judge_shape, pave_shape, solve_shape, check_shape, track_shape, retrack_shape, guard_shape, make_shape}

-- of three tests the last, and the middle one, don't fail
last_holds : (help sub arg : Bool) → check_kinds help sub arg ≡ [] → arg ≡ false
last_holds true sub arg e = cc
last_holds false true arg e = cc
last_holds false false true e = cc
last_holds false false false e = refl

middle_holds : (help sub arg : Bool) → check_kinds help sub arg ≡ [] → sub ≡ false
middle_holds true sub arg e = cc
middle_holds false true arg e = cc
middle_holds false false arg e = refl

lacks_none : (negates lacks : Bool) → (not (negates && false) && lacks) ≡ false → lacks ≡ false
lacks_none true lacks e = e
lacks_none false lacks e = e

-- what is required has a text
abbrev Required : List Rule → List Row → Type 0
Required [] rows = Unit {0}
Required (a ∷ c) rows = (a.required ≡ true → (text : Text) × (first_of a.id rows ≡ Some text)) × Required c rows

required : (c : List Rule) (rows : List Row) → Filled rows
    → list_any (λ a. a.required && not (is_given a.id rows)) c ≡ false → Required c rows
required [] rows filled none = tt
required (a ∷ c) rows filled none = (
  (λ wanted. given_text a.id rows filled (given (is_given a.id rows) (ap (λ w. w && not (is_given a.id rows)) (sym wanted) ∙ (neither (a.required && not (is_given a.id rows)) _ none).0))),
  required c rows filled (neither (a.required && not (is_given a.id rows)) _ none).1,
)
  where
    neither : (x y : Bool) → (x || y) ≡ false → (x ≡ false) × (y ≡ false)
    neither true y e = cc
    neither false y e = (refl, e)

    given : (g : Bool) → not g ≡ false → g ≡ true
    given true e = refl
    given false e = cc

-- the texts of a subcommand that takes its words
texts_of : (s : Shape) (words : List Text) → AllSet s.rules
    → level_fault s [] nothing_held words false [] ≡ []
    → Required s.rules (rows_after s.rules [] words)
texts_of s words all e =
    let end = (walk s.rules [] nothing_held words).held in
    let walked = both (walk_fault s [] (walk_from nothing_held) words) _ e in
    let settles = both (settle_fault s.rules s.args_override_self end) _ walked.1 in
    let defaults = both (defaults_fault (settled s.rules end).rows s.rules) _ settles.1 in
    required s.rules (rows_after s.rules [] words)
    (finished_filled s end all settles.0 (walk_filled s [] (walk_from nothing_held) words all walked.0 tt))
    (lacks_none s.subcommand_negates_reqs _ (last_holds _ _ _ defaults.1))

judge_says : (words : List Text) → level_fault judge_shape [] nothing_held words false [] ≡ []
    → SaysCommand (Some (rows_at judge_shape words))
unfolding clap_on_literals
judge_says words e =
    let k = texts_of judge_shape words (record { set = inl refl; some = inl refl }, tt) e in
    inl (record { rows = rows_after judge_shape.rules [] words; said_is = refl; texts = (k.0 refl, tt) })

pave_set : AllSet pave_shape.rules
unfolding clap_on_literals
pave_set = (
  record { set = inl refl; some = inl refl },
  (record { set = inl refl; some = inl refl }, (record { set = inr refl; some = inr (λ none. cc) }, tt)),
)

pave_says : (words : List Text) → level_fault pave_shape [] nothing_held words false [] ≡ []
    → SaysCommand (Some (rows_at pave_shape words))
unfolding clap_on_literals
pave_says words e =
    let k = texts_of pave_shape words pave_set e in
    inr (inl (record { rows = rows_after pave_shape.rules [] words; said_is = refl; texts = (k.0 refl, (k.1.0 refl, tt)) }))

files_set : AllSet check_shape.rules
unfolding clap_on_literals
files_set = (
  record { set = inl refl; some = inl refl },
  (
    record { set = inl refl; some = inl refl },
    (
      record { set = inl refl; some = inl refl },
      (
        record { set = inl refl; some = inl refl },
        (
          record { set = inl refl; some = inl refl },
          (record { set = inl refl; some = inl refl }, (record { set = inl refl; some = inl refl }, tt)),
        ),
      ),
    ),
  ),
)

file_texts : (rows : List Row) → Required check_shape.rules rows → HaveTexts file_ids rows
unfolding clap_on_literals
file_texts rows k = (k.0 refl, (k.1.0 refl, (k.1.1.0 refl, (k.1.1.1.0 refl, tt))))

-- the same with `--after`
retrack_set : AllSet retrack_shape.rules
unfolding clap_on_literals
retrack_set = (record { set = inl refl; some = inl refl }, (record { set = inl refl; some = inl refl }, (record { set = inl refl; some = inl refl }, (record { set = inl refl; some = inl refl }, (record { set = inl refl; some = inl refl }, (record { set = inl refl; some = inl refl }, (record { set = inl refl; some = inl refl }, (record { set = inl refl; some = inl refl }, tt))))))))

retrack_texts : (rows : List Row) → Required retrack_shape.rules rows → HaveTexts file_ids rows
unfolding clap_on_literals
retrack_texts rows k = (k.0 refl, (k.1.0 refl, (k.1.1.0 refl, (k.1.1.1.0 refl, tt))))

-- the same with `--quiet`
quiet_set : AllSet solve_shape.rules
unfolding clap_on_literals
quiet_set = (
  record { set = inl refl; some = inl refl },
  (
    record { set = inl refl; some = inl refl },
    (
      record { set = inl refl; some = inl refl },
      (
        record { set = inl refl; some = inl refl },
        (
          record { set = inl refl; some = inl refl },
          (
            record { set = inl refl; some = inl refl },
            (
              record { set = inl refl; some = inl refl },
              (record { set = inr refl; some = inr (λ none. cc) }, tt),
            ),
          ),
        ),
      ),
    ),
  ),
)

quiet_texts : (rows : List Row) → Required solve_shape.rules rows → HaveTexts file_ids rows
unfolding clap_on_literals
quiet_texts rows k = (k.0 refl, (k.1.0 refl, (k.1.1.0 refl, (k.1.1.1.0 refl, tt))))

-- with both
track_set : AllSet track_shape.rules
unfolding clap_on_literals
track_set = (record { set = inl refl; some = inl refl }, (record { set = inl refl; some = inl refl }, (record { set = inl refl; some = inl refl }, (record { set = inl refl; some = inl refl }, (record { set = inl refl; some = inl refl }, (record { set = inl refl; some = inl refl }, (record { set = inl refl; some = inl refl }, (record { set = inl refl; some = inl refl }, (record { set = inr refl; some = inr (λ none. cc) }, tt)))))))))

track_texts : (rows : List Row) → Required track_shape.rules rows → HaveTexts file_ids rows
unfolding clap_on_literals
track_texts rows k = (k.0 refl, (k.1.0 refl, (k.1.1.0 refl, (k.1.1.1.0 refl, tt))))

solve_says : (words : List Text) → level_fault solve_shape [] nothing_held words false [] ≡ []
    → SaysCommand (Some (rows_at solve_shape words))
unfolding clap_on_literals
solve_says words e = inr (inr (inl (record { rows = rows_after solve_shape.rules [] words; said_is = refl; texts = quiet_texts (rows_after solve_shape.rules [] words) (texts_of solve_shape words quiet_set e) })))

check_says : (words : List Text) → level_fault check_shape [] nothing_held words false [] ≡ []
    → SaysCommand (Some (rows_at check_shape words))
unfolding clap_on_literals
check_says words e = inr (inr (inr (inl (record { rows = rows_after check_shape.rules [] words; said_is = refl; texts = file_texts (rows_after check_shape.rules [] words) (texts_of check_shape words files_set e) }))))

track_says : (words : List Text) → level_fault track_shape [] nothing_held words false [] ≡ []
    → SaysCommand (Some (rows_at track_shape words))
unfolding clap_on_literals
track_says words e = inr (inr (inr (inr (inl (record { rows = rows_after track_shape.rules [] words; said_is = refl; texts = track_texts (rows_after track_shape.rules [] words) (texts_of track_shape words track_set e) })))))

retrack_says : (words : List Text) → level_fault retrack_shape [] nothing_held words false [] ≡ []
    → SaysCommand (Some (rows_at retrack_shape words))
unfolding clap_on_literals
retrack_says words e = inr (inr (inr (inr (inr (inl (record { rows = rows_after retrack_shape.rules [] words; said_is = refl; texts = retrack_texts (rows_after retrack_shape.rules [] words) (texts_of retrack_shape words retrack_set e) }))))))

guard_set : AllSet guard_shape.rules
unfolding clap_on_literals
guard_set = (record { set = inl refl; some = inl refl }, (record { set = inl refl; some = inl refl }, (record { set = inl refl; some = inl refl }, (record { set = inl refl; some = inl refl }, (record { set = inl refl; some = inl refl }, (record { set = inl refl; some = inl refl }, (record { set = inl refl; some = inl refl }, (record { set = inl refl; some = inl refl }, (record { set = inl refl; some = inl refl }, (record { set = inr refl; some = inr (λ none. cc) }, tt))))))))))

guard_texts : (rows : List Row) → Required guard_shape.rules rows → HaveTexts guard_ids rows
unfolding clap_on_literals
guard_texts rows k = (k.0 refl, (k.1.0 refl, (k.1.1.0 refl, (k.1.1.1.0 refl, (k.1.1.1.1.0 refl, tt)))))

guard_says : (words : List Text) → level_fault guard_shape [] nothing_held words false [] ≡ []
    → SaysCommand (Some (rows_at guard_shape words))
unfolding clap_on_literals
guard_says words e = inr (inr (inr (inr (inr (inr (inl (record { rows = rows_after guard_shape.rules [] words; said_is = refl; texts = guard_texts (rows_after guard_shape.rules [] words) (texts_of guard_shape words guard_set e) })))))))

make_says : (words : List Text) → level_fault make_shape [] nothing_held words false [] ≡ []
    → SaysCommand (Some (rows_at make_shape words))
unfolding clap_on_literals
make_says words e =
    let k = texts_of make_shape words (record { set = inl refl; some = inl refl }, (record { set = inl refl; some = inl refl }, tt)) e in
    inr (inr (inr (inr (inr (inr (inr (record { rows = rows_after make_shape.rules [] words; said_is = refl; texts = (k.0 refl, (k.1.0 refl, tt)) })))))))

-- the first subcommand whose name the word is
abbrev chosen : Bool → Bool → Bool → Bool → Bool → Bool → Bool → Bool → Option Shape
chosen j p s c t r g m =
    cond j (Some judge_shape) (cond p (Some pave_shape) (cond s (Some solve_shape) (cond c (Some check_shape)
    (cond t (Some track_shape) (cond r (Some retrack_shape) (cond g (Some guard_shape) (cond m (Some make_shape) None)))))))

chosen_says : (words : List Text) (j p s c t r g m : Bool)
    → option_map_or (λ sub. level_fault sub [] nothing_held words false []) (chosen j p s c t r g m) [] ≡ []
    → is_some (option_map (λ sub. rows_at sub words) (chosen j p s c t r g m)) ≡ true
    → SaysCommand (option_map (λ sub. rows_at sub words) (chosen j p s c t r g m))
chosen_says words true p s c t r g m faults some = judge_says words faults
chosen_says words false true s c t r g m faults some = pave_says words faults
chosen_says words false false true c t r g m faults some = solve_says words faults
chosen_says words false false false true t r g m faults some = check_says words faults
chosen_says words false false false false true r g m faults some = track_says words faults
chosen_says words false false false false false true g m faults some = retrack_says words faults
chosen_says words false false false false false false true m faults some = guard_says words faults
chosen_says words false false false false false false false true faults some = make_says words faults
chosen_says words false false false false false false false false faults some = cc

-- the subcommand that was met is one of the program's
said : (stop : Option (Text × List Text)) → entered_fault (built program) stop ≡ []
    → is_some (entered (built program) stop) ≡ true
    → SaysCommand (entered (built program) stop)
unfolding clap_on_literals
said None faults some = cc
said (Some p) faults some =
    chosen_says p.1 (answers_to p.0 (label_of judge_shape)) (answers_to p.0 (label_of pave_shape)) (answers_to p.0 (label_of solve_shape))
    (answers_to p.0 (label_of check_shape)) (answers_to p.0 (label_of track_shape)) (answers_to p.0 (label_of retrack_shape))
    (answers_to p.0 (label_of guard_shape)) (answers_to p.0 (label_of make_shape)) faults some

entered_is : (t : Bool) → (not t && true) ≡ false → t ≡ true
entered_is true e = refl
entered_is false e = cc

sub_there : (s : Shape) (rows : List Row) (has : Bool) → s.subcommand_required ≡ true
    → check_fault s rows has ≡ [] → has ≡ true
sub_there s rows has wanted e =
    let middle = middle_holds (not has && (s.arg_required_else_help && not (list_any (λ r. explicit_source r.source) rows))) (not has && s.subcommand_required)
    (not (s.subcommand_negates_reqs && has) && list_any (λ a. a.required && not (is_given a.id rows)) s.rules) e in
    entered_is has (ap (λ (w : Bool). not has && w) (sym wanted) ∙ middle)

pub taken_says : TakenIsCommand
taken_says words e =
    let top = (built program).top in
    let names = names_of (built program) in
    let stop = (walk top.rules names nothing_held words).stopped in
    let below = both (walk_fault top names (walk_from nothing_held) words) _ e in
    let rest = both (entered_fault (built program) stop) _ below.1 in
    let end = (walk top.rules names nothing_held words).held in
    let settles = both (settle_fault top.rules top.args_override_self end) _ rest.1 in
    let has = is_some (entered (built program) stop) in
    let defaults = both (defaults_fault (settled top.rules end).rows top.rules) (check_fault top (finished top.rules end) has) settles.1 in
    said stop rest.0 (sub_there top (finished top.rules end) has refl defaults.1)
