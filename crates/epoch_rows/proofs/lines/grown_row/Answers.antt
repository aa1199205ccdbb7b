use Rattle.std.proofs.Common.{◌≡◌, ◌∙◌, refl, to_z-of_z, to_z, of_z, FitsSigned, rules}
use mir.Syntax.{w64}
use Rattle.grid_model.specs.Boxes.{grid_box}
use Rattle.grid_model.specs.Lengths.{spare_of}
use Rattle.gnss_model.specs.Delays.{err_spare_of}
use Rattle.epoch_rows.proofs.LineLemmas.{room, err_room, row_grown}
use Rattle.epoch_rows.proofs.lines.grown_row.Goals as goal

pub grown-requires-clause-x : goal.grown-requires-clause-x
grown-requires-clause-x c =
    let fits : FitsSigned w64 c.room_over.result = search rules in
    let same : to_z w64 (of_z w64 c.room_over.result) ≡ c.room_over.result = simp to_z-of_z refl in
    room c.room_over.result _ c.args.row.now.x same (spare_of (grid_box c.args.part.now)) c.room_over.ensures.value c.room_over.ensures.most c.requires.small.x

pub grown-requires-clause-y : goal.grown-requires-clause-y
grown-requires-clause-y c =
    let fits : FitsSigned w64 c.room_over.result = search rules in
    let same : to_z w64 (of_z w64 c.room_over.result) ≡ c.room_over.result = simp to_z-of_z refl in
    room c.room_over.result _ c.args.row.now.y same (spare_of (grid_box c.args.part.now)) c.room_over.ensures.value c.room_over.ensures.most c.requires.small.y

pub grown-requires-clause-z : goal.grown-requires-clause-z
grown-requires-clause-z c =
    let fits : FitsSigned w64 c.room_over.result = search rules in
    let same : to_z w64 (of_z w64 c.room_over.result) ≡ c.room_over.result = simp to_z-of_z refl in
    room c.room_over.result _ c.args.row.now.z same (spare_of (grid_box c.args.part.now)) c.room_over.ensures.value c.room_over.ensures.most c.requires.small.z

pub grown-requires-clause-range : goal.grown-requires-clause-range
grown-requires-clause-range c =
    let fits : FitsSigned w64 c.room_over.result = search rules in
    let same : to_z w64 (of_z w64 c.room_over.result) ≡ c.room_over.result = simp to_z-of_z refl in
    room c.room_over.result _ c.args.row.now.range same (spare_of (grid_box c.args.part.now)) c.room_over.ensures.value c.room_over.ensures.most c.requires.small.range

pub grown-requires-clause-bounds : goal.grown-requires-clause-bounds
grown-requires-clause-bounds c =
    let fits : FitsSigned w64 c.err_room_over.result = search rules in
    let same : to_z w64 (of_z w64 c.err_room_over.result) ≡ c.err_room_over.result = simp to_z-of_z refl in
    err_room c.err_room_over.result _ c.args.row.now same (err_spare_of (grid_box c.args.part.now) c.args.delays) c.err_room_over.ensures.value c.err_room_over.ensures.most
    c.requires.small

pub returns : goal.returns
returns c =
    let fits : FitsSigned w64 c.room_over.result = search rules in
    let same : to_z w64 (of_z w64 c.room_over.result) ≡ c.room_over.result = simp to_z-of_z refl in
    let err_fits : FitsSigned w64 c.err_room_over.result = search rules in
    let err_same : to_z w64 (of_z w64 c.err_room_over.result) ≡ c.err_room_over.result = simp to_z-of_z refl in
    let h = c.grown.ensures in
    row_grown _ _ _ _ c.args.row.now c.grown.result (same ∙ c.room_over.ensures.value) (err_same ∙ c.err_room_over.ensures.value) h.sat h.bounds h.x h.y h.z h.range
