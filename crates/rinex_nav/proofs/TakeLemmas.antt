-- A record from what its lines give.
use Rattle.std.proofs.Common.{◌≡◌, ◌⊎◌, ap, inl, inr, ◌∙◌, Option, None, Some, Ok, option_map}
use Rattle.rinex_text.specs.Faults.{where_holds, gives}
use Rattle.rinex_text.specs.declared.fault.Refusal.{Refusal}
use Rattle.rinex_nav.specs.Reading.{plain_record}
use Rattle.rinex_nav.specs.Records.{Broadcast}
use Rattle.rinex_nav.specs.declared.record.NavRecord.{NavRecord}

-- the record, or none where it isn't kept
pub kept_is : (Kept : Type 0) (b p : Broadcast) (found : Option NavRecord) → p ≡ b
    → (Kept × (option_map plain_record found ≡ Some p)) ⊎ ((Kept → ⊥) × (found ≡ None))
    → where_holds {X = Option Broadcast} {E = Refusal} Kept (gives (Some b)) (gives None) (Ok (option_map plain_record found))
kept_is Kept b p found e (inl (kept, is)) = inl (kept, ap (λ (o : Option Broadcast). Ok o) is ∙ ap (λ (q : Broadcast). Ok (Some q)) e)
kept_is Kept b p found e (inr (other, is)) = inr (other, ap (λ (o : Option NavRecord). Ok (option_map plain_record o)) is)

pub plain_is : (p b : Broadcast) → p.sat ≡ b.sat → p.toc ≡ b.toc → p.healthy ≡ b.healthy
    → p.fields ≡ b.fields → p ≡ b
plain_is p b sat toc healthy fields = λ i. record { sat = sat i; toc = toc i; healthy = healthy i; fields = fields i }
