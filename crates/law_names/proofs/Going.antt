-- What each piece of an event leaves of a server in the midst of it.
use Rattle.std.proofs.Common.{ℕ, ◌≡◌, ◌≤◌, true, List, ◌∷◌, ◌++◌, Some, refl, sym, subst, ◌∙◌}
use Rattle.pg_run.specs.pg_base.declared.id.FileId.{FileId}
use Rattle.pg_run.specs.pg_base.declared.stamp.Stamp.{Stamp}
use Rattle.pg_run.specs.pg_base.Version.{VersionValue}
use Rattle.pg_run.specs.pg_content.Content.{Among}
use Rattle.pg_run.specs.pg_register.declared.flag.Flag.{Flag}
use Rattle.pg_run.specs.pg_register.declared.place.Place.{Place}
use Rattle.pg_run.specs.pg_register.Flag.{IsByServer}
use Rattle.pg_run.specs.pg_entries.declared.entry.Entry.{Entry}
use Rattle.pg_run.specs.pg_names.declared.attributes.Attributes.{Attributes}
use Rattle.pg_run.specs.pg_names.Names.{NamesValue, cell_at, is_dir, own_at, raise, with_flag, with_joined, with_place}
use Rattle.pg_run.proofs.pg_names.Lookups.{update_frame}
use Rattle.pg_run.specs.pg_house.Facts.{IsHeld}
use Rattle.pg_run.specs.theory_flood_pieces.Whole.{AreOrderly}
use Rattle.pg_run.proofs.theory_flood_pieces.Choices.{chosen}
use Rattle.pg_run.proofs.theory_flood_pieces.Orderly.{orderly_entry, orderly_flag, orderly_place, orderly_raised}
use Rattle.pg_run.specs.pg_store.declared.store.Store.{Store}
use Rattle.pg_run.specs.pg_store.Seen.{removed_of}
use Rattle.pg_run.specs.pg_store.Store.{is_new_version, is_newer_entry, is_newer_flag, is_newer_place, put_entry, put_flag, put_place, put_version, take_entry, take_flag, take_place, take_version}
use Rattle.pg_run.specs.Took.{Take, entry_takes}
use Rattle.pg_run.specs.Took.Take.{Began, TookFlag, TookPlace, TookVersion}
use Rattle.pg_run.specs.Took.Taker.{Itself}
use Rattle.law_names.specs.Goes.{Goes}
use Rattle.law_passing.specs.Tells.{Tells}
use Rattle.law_names.proofs.Comes.{taken_flag, taken_place}
use Rattle.law_names.proofs.Entries.{taken_entry}
use Rattle.law_names.proofs.Same.{AreSameNames, names_tell, reordered_tells, version_tells}
use Rattle.law_passing.proofs.States.{tells_sorted}
use Rattle.law_passing.proofs.Takes.{began_held, held_began}

pub orderly_of : (removed : List ℕ) (s : NamesValue) (takes : List Take) → Goes removed s takes → AreOrderly s
orderly_of removed s takes k = record {
  dirs = k.dirs;
  sorted = tells_sorted s takes k.tells;
  last = k.last;
  children = λ d c e h. (k.tells.some d c e h).child_is;
}

-- ---- one piece

module _ (removed : List ℕ) where
  abbrev Is : NamesValue → List Take → Type 0
  Is = Goes removed

  from_orderly : (s : NamesValue) (takes : List Take) → Tells s takes → AreOrderly s → s.removed ≡ removed → Is s takes
  from_orderly s takes tells o e = record { tells = tells; dirs = o.dirs; last = o.last; same_removed = e }

  pub goes_place : (a : Store) (now : List Take) → Is a.names now → (f : FileId) → IsHeld a.names f → (p : Place)
      → Is (take_place a f p).names (TookPlace Itself f p ∷ now)
  goes_place a now k f held p =
      let o = orderly_of removed a.names now k in
      let frame = update_frame a.names f (with_place p) in
      from_orderly (take_place a f p).names (TookPlace Itself f p ∷ now) (taken_place a f held.0 held.1 p now k.tells)
      (chosen (λ (b : Store). AreOrderly b.names) (is_newer_place a f p) (put_place a f p) a (orderly_place a.names f held.0 held.1 o p) o)
      (chosen (λ (b : Store). removed_of b ≡ removed) (is_newer_place a f p) (put_place a f p) a (frame.removed ∙ k.same_removed) k.same_removed)

  pub goes_flag : (a : Store) (now : List Take) → Is a.names now → (f : FileId) → IsHeld a.names f → (g : Flag)
      → Is (take_flag a f g).names (TookFlag Itself f g ∷ now)
  goes_flag a now k f held g =
      let o = orderly_of removed a.names now k in
      let frame = update_frame a.names f (with_flag g) in
      from_orderly (take_flag a f g).names (TookFlag Itself f g ∷ now) (taken_flag a f held.0 held.1 g now k.tells)
      (chosen (λ (b : Store). AreOrderly b.names) (is_newer_flag a f g) (put_flag a f g) a (orderly_flag a.names f held.0 held.1 o g) o)
      (chosen (λ (b : Store). removed_of b ≡ removed) (is_newer_flag a f g) (put_flag a f g) a (frame.removed ∙ k.same_removed) k.same_removed)

  pub goes_entry : (a : Store) (now : List Take) → Is a.names now → (d : FileId) → IsHeld a.names d → is_dir d ≡ true → (e : Entry) → IsByServer e.flags
      → Is (take_entry a d e).names (entry_takes d e ++ now)
  goes_entry a now k d held dir e sorted =
      let o = orderly_of removed a.names now k in
      let frame = update_frame a.names d (with_joined e) in
      from_orderly (take_entry a d e).names (entry_takes d e ++ now) (taken_entry a d held.0 held.1 e sorted now k.tells)
      (chosen (λ (b : Store). AreOrderly b.names) (is_newer_entry a d e) (put_entry a d e) a (orderly_entry a.names d held.0 held.1 dir o e) o)
      (chosen (λ (b : Store). removed_of b ≡ removed) (is_newer_entry a d e) (put_entry a d e) a (frame.removed ∙ k.same_removed) k.same_removed)

  -- a stamp is taken
  pub goes_raised : (s : NamesValue) (time : ℕ) (now : List Take) → Is s now → Is (raise s time) now
  goes_raised s time now k =
      from_orderly (raise s time) now
      (record { held = k.tells.held; told = k.tells.told; place = k.tells.place; flags = k.tells.flags; none = k.tells.none; some = k.tells.some })
      (orderly_raised s time (orderly_of removed s now k)) k.same_removed

  -- a version of a file is taken, or made
  pub goes_noted : (s : NamesValue) (now : List Take) → Is s now → (f : FileId) (stamp : Stamp) → Is s (TookVersion f stamp ∷ now)
  goes_noted s now k f stamp = record { tells = version_tells f stamp now s k.tells; dirs = k.dirs; last = k.last; same_removed = k.same_removed }

  pub goes_taken : (a : Store) (now : List Take) → Is a.names now → (f : FileId) (v : VersionValue) → Is (take_version a f v).names now
  goes_taken a now k f v =
      chosen (λ (b : Store). Is b.names now) (is_new_version a f v) (put_version a f v) a (goes_raised a.names v.head.stamp.time now k) k

  pub goes_version : (a : Store) (now : List Take) → Is a.names now → (f : FileId) (v : VersionValue)
      → Is (take_version a f v).names (TookVersion f v.head.stamp ∷ now)
  goes_version a now k f v = goes_taken a (TookVersion f v.head.stamp ∷ now) (goes_noted a.names now k f v.head.stamp) f v

  -- nothing is taken, and names stay as they are but for what is full
  pub goes_same : (s t : NamesValue) (now : List Take) → Is s now → AreSameNames s t → t.last ≡ s.last → t.removed ≡ s.removed → Is t now
  goes_same s t now k m last gone =
      let P : ℕ → Type 0 = λ n. (f : FileId) (own : Attributes) → own_at t f ≡ Some own → own.place.stamp.time ≤ n in
      let Q : ℕ → Type 0 = λ n. (d c : FileId) (e : Entry) → cell_at t d c ≡ Some e → e.place.stamp.time ≤ n in
      record {
        tells = names_tell s t now m k.tells;
        dirs = λ d c e h. k.dirs d c e (sym (m.cells d c) ∙ h);
        last = record {
          own = subst P (sym last) (λ f own h. k.last.own f own (sym (m.own f) ∙ h));
          cells = subst Q (sym last) (λ d c e h. k.last.cells d c e (sym (m.cells d c) ∙ h));
        };
        same_removed = gone ∙ k.same_removed;
      }

  pub goes_on : (s t : NamesValue) (now : List Take) → t ≡ s → Is s now → Is t now
  goes_on s t now e k = subst (λ (x : NamesValue). Is x now) (sym e) k

  -- takes in another order
  pub goes_reordered : (s : NamesValue) (now rest : List Take) → Is s now → ((x : Take) → Among x now → Among x rest) → ((x : Take) → Among x rest → Among x now)
      → Is s rest
  goes_reordered s now rest k to back =
      record { tells = reordered_tells now rest to back s k.tells; dirs = k.dirs; last = k.last; same_removed = k.same_removed }

  -- what was held is held
  pub still_held : (s t : NamesValue) (now rest : List Take) → Is s now → Is t rest → ((x : Take) → Among x now → Among x rest) → (q : FileId) → IsHeld s q → IsHeld t q
  still_held s t now rest k l more q h =
      l.tells.held q (began_held rest q (more (Began q) (held_began now q (k.tells.told q h))))

-- in the view that it is in
pub goes_itself : (removed : List ℕ) (s : NamesValue) (now : List Take) → Goes removed s now → Goes s.removed s now
goes_itself removed s now k = record { tells = k.tells; dirs = k.dirs; last = k.last; same_removed = refl }
