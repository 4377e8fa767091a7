-- Worlds of letters: what an event adds, other messages and all else as it was, and removals.
use Rattle.std.proofs.Common.{ℕ, ◌≡◌, ◌≤◌, ◌==◌, ◌&&◌, ◌||◌, not, Bool, true, false, if◌then◌else◌, List, Option, [], ◌∷◌, ◌++◌, map, None, Some, refl, sym, ap, subst, ◌∙◌, inl, inr, ◌⊎◌, All, arith}
use Rattle.std.proofs.lemmas.Bool.Decides.{nat_tests}
use Rattle.std.proofs.lemmas.List.Elements.{All-cons, All-head, All-tail, All-weaker}
use Rattle.std.proofs.lemmas.List.Folds.{list_any-append}
use Rattle.pg_run.specs.pg_base.declared.id.FileId.{FileId}
use Rattle.pg_run.specs.pg_base.declared.stamp.Stamp.{Stamp}
use Rattle.pg_run.specs.pg_event.declared.event.Event.{Event}
use Rattle.pg_run.specs.pg_event.declared.event.Event.TheVariants as happening
use Rattle.pg_run.specs.pg_event.declared.entry.VoidCause.{VoidCause}
use Rattle.theory_listing.specs.Promises.{IsPromised, Kept, Promise, Somewhere}
use Rattle.theory_listing.specs.Rule.{IsKnownAt, IsSupersededAt, IsToldAt}
use Rattle.theory_listing.specs.World as listing
use Rattle.theory_listing.specs.World.{IsCurrent, signed}
use Rattle.theory_listing.specs.World.Saying.{LeaveOk, Other, TellOk, Told}
use Rattle.theory_listing.specs.Runs.{removed}
use Rattle.pg_run.specs.pg_msg.declared.message.Sent.{Sent}
use Rattle.pg_run.specs.pg_register.declared.place.Place.{Place}
use Rattle.pg_run.specs.pg_register.Flag.{is_removed}
use Rattle.pg_run.specs.Journal.{removed_in}
use Rattle.pg_run.specs.pg_store.declared.store.Store.{Store}
use Rattle.pg_run.specs.pg_store.Seen.{view_of}
use Rattle.law_listings.specs.Letters.{Letter, Saying, letter, of_stores, says}
use Rattle.law_listings.proofs.Events.{SaysOf}

-- ---- what messages promise, by what the server that sent them is

-- a message is from this server, in this view
abbrev pub IsFrom : ℕ → ℕ → Sent → Type 0
IsFrom s view m = (m.packet.from ≡ s) × (m.packet.view ≡ view)

module _ (w : listing.World Store FileId Place Stamp) (a : Store) (s view : ℕ) where
  abbrev Promised : Letter → Type 0
  Promised l = IsPromised of_stores w l

  from_it : (t v : ℕ) (x : Saying) → t ≡ s → v ≡ view → Promised (record { sender = s; view = view; says = x }) → Promised (record { sender = t; view = v; says = x })
  from_it t v x from at h =
      subst (λ (r : ℕ). Promised (record { sender = r; view = v; says = x })) (sym from)
      (subst (λ (u : ℕ). Promised (record { sender = s; view = u; says = x })) (sym at) h)

  -- all letters that an event adds
  pub letters_promised : (old : List Letter) (ms : List Sent) → All (IsFrom s view) ms
      → All Promised (signed of_stores s view (SaysOf a ms) ++ old) → All Promised (map (letter a) ms ++ old)
  letters_promised old [] k h = h
  letters_promised old (m ∷ ms) k h =
      let x = says a m.packet.message in
      let one : Letter = record { sender = s; view = view; says = x } in
      let first = All-head Promised one (signed of_stores s view (SaysOf a ms) ++ old) h in
      let rest = All-tail Promised one (signed of_stores s view (SaysOf a ms) ++ old) h in
      let is = All-head (IsFrom s view) m ms k in
      All-cons Promised (letter a m) (map (letter a) ms ++ old) (from_it m.packet.from m.packet.view x is.0 is.1 first)
      (letters_promised old ms (All-tail (IsFrom s view) m ms k) rest)

-- ---- other messages, and all else as it was

module _ (w : listing.World Store FileId Place Stamp) (live : ℕ → Bool) (least : ℕ) (ms : List Letter) (lives : (j : ℕ) → live j ≡ w.live j) (last : least ≡ w.least) where
  abbrev Now : listing.World Store FileId Place Stamp
  Now = record { nodes = w.nodes; live = live; least = least; messages = ms }

  current_on : (j : ℕ) → IsCurrent of_stores w j → IsCurrent of_stores Now j
  current_on j c = record { live = lives j ∙ c.live; view = subst (λ (l : ℕ). l ≤ view_of (w.nodes j)) (sym last) c.view }

  current_back : (j : ℕ) → IsCurrent of_stores Now j → IsCurrent of_stores w j
  current_back j c = record { live = sym (lives j) ∙ c.live; view = subst (λ (l : ℕ). l ≤ view_of (w.nodes j)) last c.view }

  somewhere : (A : Store → Type 0) → Somewhere of_stores w A → Somewhere of_stores Now A
  somewhere A x = record { server = x.server; current = current_on x.server x.current; has = x.has }

  promise_on : (s : ℕ) (x : Saying) → Promise of_stores w s x → Promise of_stores Now s x
  promise_on s (Told by d c q) h = λ in_. somewhere (λ a. IsKnownAt of_stores a d c q) (h in_)
  promise_on s (TellOk d c t) h = somewhere (λ a. IsToldAt of_stores a d c t) h
  promise_on s (LeaveOk f n q) h = λ d in_. elim (h d in_) [
    | inl past ↦ inl past
    | inr rest ↦ elim rest [ inl own ↦ inr (inl own) | inr over ↦ inr (inr (somewhere (λ a. IsSupersededAt of_stores a d f q) over)) ]
  ]
  promise_on s Other h = tt

  promised_on : (l : Letter) → IsPromised of_stores w l → IsPromised of_stores Now l
  promised_on l h = record { view = h.view; says = λ up. promise_on l.sender l.says (h.says (subst (λ (m : ℕ). m ≤ l.view) last up)) }

  pub kept_with : Kept of_stores w → All (IsPromised of_stores w) ms → Kept of_stores Now
  kept_with k promised = record {
    settled = k.settled;
    listed = λ s d c q current lists gone. elim (k.listed s d c q (current_back s current) lists gone) [
      | inl asks ↦ inl asks
      | inr known_there ↦ inr (somewhere (λ a. IsKnownAt of_stores a d c q) known_there)
    ];
    promises = All-weaker (IsPromised of_stores w) (IsPromised of_stores Now) promised_on ms promised;
  }

-- ---- removals

-- an event removes none, or one
pub removed_by : (event : Event) (void : Option VoidCause) (removed : List ℕ) → (removed_in event void removed ≡ removed) ⊎ ((s : ℕ) × (removed_in event void removed ≡ removed ++ s ∷ []))
removed_by (happening.Remove s) None removed = inr (s, refl)
removed_by (happening.Remove s) (Some cause) removed = inl refl
removed_by event void removed = inl refl

pub live_by : (t : Bool) (removed : List ℕ) (s j : ℕ) → (s == j) ≡ (j == s) → (t && not (is_removed (removed ++ s ∷ []) j)) ≡ (if j == s then false else (t && not (is_removed removed j)))
live_by t removed s j turned =
    ap (λ b. t && not b) (list_any-append (λ one. one == j) removed (s ∷ []) ∙ ap (λ b. is_removed removed j || (b || false)) turned)
    ∙ by t (is_removed removed j) (j == s)
  where
    by : (t gone here : Bool) → (t && not (gone || (here || false))) ≡ (if here then false else (t && not gone))
    by false gone true = refl
    by false gone false = refl
    by true true true = refl
    by true true false = refl
    by true false true = refl
    by true false false = refl

pub turned : (s j : ℕ) → (s == j) ≡ (j == s)
turned s j = grind (arith, nat_tests)
