-- What a letter tells of a place, its message tells.
use Rattle.std.proofs.Common.{ℕ, ◌≡◌, ◌⊎◌, true, List, inl, inr, sym, ap, subst, ◌∙◌}
use Rattle.theory_listing.specs.Rule.{IsJustTold}
use Rattle.theory_listing.specs.World.{Way}
use Rattle.theory_listing.specs.World.Saying.{Other, Told}
use Rattle.theory_listing.specs.World.Way.{PlaceIs, SureCell, Tell}
use Rattle.pg_run.specs.pg_base.declared.id.FileId.{FileId}
use Rattle.pg_run.specs.pg_entries.declared.cell.Cell.TheVariants as cells
use Rattle.pg_run.specs.pg_entries.declared.entry.Entry.{Entry}
use Rattle.pg_run.specs.pg_register.declared.place.Place.{Place}
use Rattle.pg_run.specs.pg_server.declared.input.Input.{Input}
use Rattle.pg_run.specs.pg_store.declared.store.Store.{Store}
use Rattle.pg_run.specs.pg_msg.declared.message.Message.{Message}
use Rattle.pg_run.specs.pg_msg.declared.message.Message.TheVariants as message
use Rattle.law_listings.specs.Letters.{Letter, Saying, of_stores, says}
use Rattle.law_listings.proofs.Events.{IsLetterOf}
use Rattle.law_confirms.specs.Confirms.{TellsPlace, WasTold}

-- two that tell the same tell it of the same
same_told : (v w : Way) (dir child d c : FileId) (q r : Place)
    → ◌≡◌ {A = Saying} (Told v dir child q) (Told w d c r) → (dir ≡ d) × (child ≡ c) × (q ≡ r)
same_told v w dir child d c q r e = (cc, cc, cc)

module _ (way : Way) (dir child : FileId) (place : Place) where
  abbrev This : Saying
  This = Told way dir child place

  told_is : (z : Store) (m : Message) → says z m ≡ This → TellsPlace dir child place m
  told_is z (message.Cell ends tag (cells.Entry e true)) same =
      same_told SureCell way ends.file e.child dir child e.place place same
  told_is z (message.PlaceIs to e) same =
      same_told PlaceIs way to e.child dir child e.place place same
  told_is z (message.Tell to e) same = same_told Tell way to e.child dir child e.place place same
  told_is z m same = absurd (let other : says z m ≡ This = same in cc)

  said_by : (sent : List Letter) (s : ℕ) (asked : Input) (heard : Letter)
      → (heard.says ≡ Other) ⊎ IsLetterOf sent s asked heard → heard.says ≡ This
      → WasTold asked dir child place
  said_by sent s asked heard (inl other) same =
      absurd (let z : ◌≡◌ {A = Saying} Other This = sym other ∙ same in cc)
  said_by sent s asked heard (inr l) same =
      let P : Input → Type 0 = λ x. WasTold x dir child place in
      subst P (sym l.came) (told_is l.store l.packet.message
      (ap (λ (x : Letter). x.says) (sym l.is) ∙ same))

-- A LETTER THAT TELLS a place is of a message that does
pub just_told : (sent : List Letter) (s : ℕ) (asked : Input) (heard : Letter)
    → (heard.says ≡ Other) ⊎ IsLetterOf sent s asked heard → (dir child : FileId) (place : Place)
    → IsJustTold of_stores heard dir child place → WasTold asked dir child place
just_told sent s asked heard said dir child place told =
    said_by told.0 dir child place sent s asked heard said told.1
