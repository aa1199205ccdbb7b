-- The slots of a shelf in memory, and what it tells of them.
use Rattle.std.proofs.Common.{◌≡◌, ◌≤◌, ◌<◌, ℕ, ◌+◌, ◌-◌, List, [], ◌∷◌, ◌++◌, length, drop, true, Option, None, Some, is_some, refl, sym, ap, ◌∙◌, arith}
use Rattle.std.specs.Option.{option_map}
use Rattle.std.specs.FinMap as map
use Rattle.outer_io.specs.declared.slots.Slot.{Slot}
use Rattle.outer_io.specs.declared.slots.Slots.{Slots}
use Rattle.outer_io.specs.declared.marks.Mark.{Mark}
use Rattle.outer_io.specs.declared.memory_files.FileId.TheVariants as id
use Rattle.outer_io.specs.declared.shelf.Phase.TheVariants.{Writing}
use Rattle.outer_io.specs.Slots.{at, put, each, AtEach}
use Rattle.outer_io.specs.Store.{Store, listed, files_in, name_of, grown}
use Rattle.outer_io.specs.Marks.{position_of, told_of, WritesLog}
use Rattle.outer_io.specs.Told.{FilePosition, Told, content, left, created, appended}
use Rattle.outer_io.proofs.SlotLemmas.{at-put, each-at, each-put, AtEach-at, AtEach-put}
use Rattle.outer_io.proofs.Covering.{created-files, longer-files}

-- ---- what the marks make of the files

abbrev pub left_at : Store → Mark → List ℕ
left_at s mark = drop mark.from (content (files_in s) (name_of s mark.file))

pub left-at : (piece : ℕ) (fails : List ℕ) (s : Store) (marks : Slots Mark) (slot : Slot)
    → left slot (told_of piece fails s marks) ≡ left_at s (at marks slot)
left-at piece fails s marks slot = ap (λ (place : FilePosition). drop place.from (content (files_in s) place.name)) (each-at (position_of s) marks slot)

pub left-put : (piece : ℕ) (fails : List ℕ) (s : Store) (marks : Slots Mark) (slot : Slot) (mark : Mark)
    → left slot (told_of piece fails s (put marks slot mark)) ≡ left_at s mark
left-put piece fails s marks slot mark = left-at piece fails s (put marks slot mark) slot ∙ ap (left_at s) (at-put marks slot mark)

-- a new log, with a slot at its start
pub told-created : (piece : ℕ) (fails : List ℕ) (s : Store) (marks : Slots Mark) (slot : Slot) (mark : Mark) (name : List ℕ)
    → name ≡ s.log_name → mark.file ≡ id.Log → mark.from ≡ 0
    → told_of piece fails (record s { log = Some [] }) (put marks slot mark) ≡ created name slot (told_of piece fails s marks)
told-created piece fails s marks slot mark name named in_log start =
    let place : position_of s mark ≡ record { name = name; from = 0 } = λ i. record { name = (ap (name_of s) in_log ∙ sym named) i; from = start i } in
    let files : files_in (record s { log = Some [] }) ≡ map.insert (files_in s) name [] =
    created-files (listed s.files) s.log_name s.log [] ∙ ap (λ n. map.insert (files_in s) n []) (sym named) in
    let positions : each (position_of s) (put marks slot mark) ≡ put (each (position_of s) marks) slot (record { name = name; from = 0 }) =
    each-put (position_of s) marks slot mark ∙ ap (put (each (position_of s) marks) slot) place in
    λ i. record { files = files i; positions = positions i; written = s.written; terms = (told_of piece fails s marks).terms }

-- what a piece that isn't empty makes of a slot at this place
appended-at : (slot : Slot) (bytes : List ℕ) (t : Told) (place : FilePosition) → 0 < length bytes
    → at t.positions slot ≡ place → appended slot bytes t ≡ record {
      files = map.insert t.files place.name (content t.files place.name ++ bytes);
      positions = put t.positions slot (record { name = place.name; from = place.from + length bytes });
      written = t.written + length bytes;
      terms = t.terms;
    }
appended-at slot [] t place some is = absurd (omega arith)
appended-at slot (b ∷ bytes) t place some is = ap (λ (p : FilePosition).
    let r : Told = record {
      files = map.insert t.files p.name (content t.files p.name ++ b ∷ bytes);
      positions = put t.positions slot (record { name = p.name; from = p.from + length (b ∷ bytes) });
      written = t.written + length (b ∷ bytes);
      terms = t.terms;
    } in r) is

-- a longer log, with a slot so much further on
pub told-appended : (piece : ℕ) (fails : List ℕ) (s : Store) (marks : Slots Mark) (slot : Slot) (bytes : List ℕ)
    → 0 < length bytes → length bytes ≤ s.room
    → is_some s.log ≡ true → (at marks slot).file ≡ id.Log
    → told_of piece fails (grown s bytes) (put marks slot (record (at marks slot) { from = (at marks slot).from + length bytes }))
    ≡ appended slot bytes (told_of piece fails s marks)
told-appended piece fails s marks slot bytes some fits is_created in_log =
    let from = (at marks slot).from in
    let name : name_of s (at marks slot).file ≡ s.log_name = ap (name_of s) in_log in
    let place : at (each (position_of s) marks) slot ≡ record { name = s.log_name; from = from } =
    each-at (position_of s) marks slot ∙ (λ i. record { name = name i; from = from }) in
    let files = longer-files (listed s.files) s.log_name s.log bytes is_created in
    let positions : each (position_of s) (put marks slot (record (at marks slot) { from = from + length bytes }))
    ≡ put (each (position_of s) marks) slot (record { name = s.log_name; from = from + length bytes }) =
    each-put (position_of s) marks slot _ ∙ (λ i. put (each (position_of s) marks) slot (record { name = name i; from = from + length bytes })) in
    let room : (s.written + length bytes) + (s.room - length bytes) ≡ s.written + s.room = omega (arith, fits) in
    (λ i. record { files = files i; positions = positions i; written = s.written + length bytes; terms = record { log = s.log_name; room = room i; piece = piece; fails = fails } })
    ∙ sym (appended-at slot bytes (told_of piece fails s marks) (record { name = s.log_name; from = from }) some place)

-- a slot that writes stands in the log
pub writing-mark : (s : Store) (marks : Slots Mark) (slot : Slot) → AtEach (WritesLog s) marks
    → at (each (λ mark. mark.phase) marks) slot ≡ Writing
    → (is_some s.log ≡ true) × ((at marks slot).file ≡ id.Log) × ((at marks slot).from ≤ s.written)
writing-mark s marks slot all writing = AtEach-at (WritesLog s) marks slot all (sym (each-at (λ mark. mark.phase) marks slot) ∙ writing)

is_some-map : {X Y : Type 0} (f : X → Y) (o : Option X) → is_some o ≡ true
    → is_some (option_map f o) ≡ true
is_some-map f None is = is
is_some-map f (Some x) is = refl

-- and still does when the log has grown
pub writers-grown : (s : Store) (marks : Slots Mark) (slot : Slot) (bytes : List ℕ)
    → AtEach (WritesLog s) marks
    → AtEach (WritesLog (grown s bytes)) (put marks slot (record (at marks slot) { from = (at marks slot).from + length bytes }))
writers-grown s marks slot bytes all = AtEach-put (WritesLog s) (WritesLog (grown s bytes)) marks slot _
    (λ mark old writing. (is_some-map _ s.log (old writing).0, (old writing).1, (let low = (old writing).2 in omega arith)))
    all
    (λ writing. let old = AtEach-at (WritesLog s) marks slot all writing in (is_some-map _ s.log old.0, old.1, (let low = old.2 in omega arith)))

-- the marks after a slot's mark was copied, moved on and put back
pub marks-moved : (old new : Slots Mark) (slot : Slot) (mark moved : Mark) (count n : ℕ)
    → new ≡ put old slot moved → moved ≡ record mark { from = mark.from + count }
    → mark ≡ at old slot → count ≡ n
    → new ≡ put old slot (record (at old slot) { from = (at old slot).from + n })
marks-moved old new slot mark moved count n puts moves copies counts =
    puts ∙ ap (put old slot) (moves ∙ (λ i. record (copies i) { from = (copies i).from + counts i }))
