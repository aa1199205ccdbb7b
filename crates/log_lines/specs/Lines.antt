-- The lines of a log: the words of each, and which values fit in it.
use Rattle.std.specs.Prelude.{ℕ, List, [], ◌∷◌, ◌++◌, codes}
use Rattle.std.specs.Fmt.{decimal, signed_decimal}
use Rattle.sat_model.specs.declared.rules.Rules.{Rules}
use Rattle.sat_model.specs.declared.rows.SatEntry.{SatEntry}
use Rattle.sat_model.specs.declared.rows.SatEntry.TheVariants as entry
use Rattle.log_lines.specs.declared.limits.Limits.{Limits}
use Rattle.log_lines.specs.declared.line.Header.{Header}
use Rattle.log_lines.specs.declared.line.LineName.{LineName}
use Rattle.log_lines.specs.declared.line.LineName.TheVariants as name
use Rattle.log_lines.specs.declared.line.LogLine.{LogLine}
use Rattle.log_lines.specs.declared.line.LogLine.TheVariants as line
use Rattle.log_tokens.specs.Words.{joined}
use Rattle.log_tokens.specs.Fields.{IsCountFromTo, IsTime}
use Rattle.bound_lines.specs.BoundLines.{half_space_words, sum_words}
use Rattle.step_lines.specs.Lines.{step_words, StepFits, name_word, step_name}
use Rattle.log_lines.specs.Rows.{entry_words, EntryFits, root_words, CornersFit}

-- ---- the fields behind the first word

-- the numbers of rules
abbrev pub limits_of : Rules → Limits
limits_of r = record {
  outliers = r.outliers;
  bisections = r.bisections;
  width = r.width;
  few_outliers = r.few_outliers;
  few_bisections = r.few_bisections;
  wide = r.wide;
  narrow = r.narrow;
}

abbrev pub limits_words : Limits → List (List ℕ)
limits_words l = decimal l.outliers ∷ decimal l.bisections ∷ signed_decimal l.width ∷ []

-- all that is asked of these numbers is kept by their type
abbrev pub LimitsFit : Limits → Type 0
LimitsFit l = Unit {0}

abbrev pub header_words : Header → List (List ℕ)
header_words h = decimal h.index ∷ signed_decimal h.ps ∷ decimal h.n ∷ []

pub record HeaderFits (h : Header) : Type 0 where
  pub index : IsCountFromTo 1 200000 h.index
  pub ps : IsTime h.ps
  pub n : IsCountFromTo 0 64 h.n

-- ---- the lines

abbrev pub spelled : LineName → List ℕ
spelled name.Gpscover = codes "gpscover"
spelled name.Rules = codes "rules"
spelled name.Few = codes "few"
spelled name.Epoch = codes "epoch"
spelled name.Sat = codes "sat"
spelled name.Skip = codes "skip"
spelled name.Root = codes "root"
spelled (name.Step n) = name_word n
spelled name.Renew = codes "renew"
spelled name.Done = codes "done"
spelled name.Bound = codes "bound"
spelled name.By = codes "by"

abbrev pub entry_name : SatEntry → LineName
entry_name (entry.Row r) = name.Sat
entry_name (entry.Skipped sat skip) = name.Skip

abbrev pub name_of : LogLine → LineName
name_of (line.Version version) = name.Gpscover
name_of (line.Rules l) = name.Rules
name_of (line.Few h) = name.Few
name_of (line.Epoch h) = name.Epoch
name_of (line.Sat e) = entry_name e
name_of (line.Root c) = name.Root
name_of (line.Step s) = name.Step (step_name s)
name_of (line.Renew c) = name.Renew
name_of (line.Done n) = name.Done
name_of (line.Bound half sums) = name.Bound
name_of (line.By sum) = name.By

abbrev pub fields : LogLine → List (List ℕ)
fields (line.Version version) = decimal version ∷ []
fields (line.Rules l) = limits_words l
fields (line.Few h) = header_words h
fields (line.Epoch h) = header_words h
fields (line.Sat e) = entry_words e
fields (line.Root c) = root_words c
fields (line.Step s) = step_words s
fields (line.Renew c) = root_words c
fields (line.Done n) = decimal n ∷ []
fields (line.Bound half sums) = half_space_words half ++ decimal sums ∷ []
fields (line.By sum) = sum_words sum

abbrev pub LineFits : LogLine → Type 0
LineFits (line.Version version) = IsCountFromTo 1 4 version
LineFits (line.Rules l) = LimitsFit l
LineFits (line.Few h) = HeaderFits h
LineFits (line.Epoch h) = HeaderFits h
LineFits (line.Sat e) = EntryFits e
LineFits (line.Root c) = CornersFit c
LineFits (line.Step s) = StepFits s
LineFits (line.Renew c) = CornersFit c
LineFits (line.Done n) = IsCountFromTo 0 200000 n
LineFits (line.Bound half sums) = IsCountFromTo 1 64 sums
LineFits (line.By sum) = Unit {0}

abbrev pub line_words : LogLine → List (List ℕ)
line_words l = spelled (name_of l) ∷ fields l

-- the one spelling of a line, without its LF
abbrev pub line_text : LogLine → List ℕ
line_text l = joined (line_words l)

-- the one spelling of some lines, each with its LF
abbrev pub text_of : List LogLine → List ℕ
text_of [] = []
text_of (l ∷ more) = line_text l ++ 10 ∷ text_of more
