-- Which checkpoints are usable.
use Rattle.std.proofs.Common.{◌≡◌, ℕ, ◌≤◌, ◌==◌, ◌&&◌, Bool, true, false, nat_le, Option, Some, None, Result, Ok, Err, if◌then◌else◌, refl, sym, ◌∙◌, ap, subst, true≢false, arith}
use Rattle.std.proofs.lemmas.Bool.Decides.{nat_tests}
use Rattle.pg_checkpoint.specs.Slots.{Slot}
use Rattle.pg_packet_fields.specs.declared.error.PacketError.{PacketError}
use Rattle.pg_saving.specs.Usable.{is_of, usable, usable_store, IsUsable}
use Rattle.pg_saving.specs.declared.loading.Checkpoint.{Checkpoint}
use Rattle.pg_state.specs.Fits.{FitsState}
use Rattle.pg_state_read.specs.Whole.{state_of}
use Rattle.pg_store.specs.declared.store.Store.{Store}

both : (a b : Bool) → (a && b) ≡ true → (a ≡ true) × (b ≡ true)
both true b h = (refl, h)
both false b h = absurd (true≢false (sym h))

module _ (server servers entries folded : ℕ) (store : Store) where
  -- what the test says
  pub of_is : is_of server servers entries folded store ≡ true → (store.names.server ≡ server) × (store.servers ≡ servers) × (1 ≤ folded) × (folded ≤ entries)
  of_is h =
      let first = both ((store.names.server == server) && (store.servers == servers) && nat_le 1 folded) (nat_le folded entries) h in
      let second = both ((store.names.server == server) && (store.servers == servers)) (nat_le 1 folded) first.0 in
      let third = both (store.names.server == server) (store.servers == servers) second.0 in
      let own : (store.names.server == server) ≡ true = third.0 in
      let all : (store.servers == servers) ≡ true = third.1 in
      let some : nat_le 1 folded ≡ true = second.1 in
      let within : nat_le folded entries ≡ true = first.1 in
      (grind (arith, nat_tests), grind (arith, nat_tests), grind (arith, nat_tests), grind (arith, nat_tests))

  -- a state that is of a log's first entries is so when there are more
  pub of_more : (more : ℕ) → entries ≤ more → is_of server servers entries folded store ≡ true → is_of server servers more folded store ≡ true
  of_more more grown h =
      let first = both ((store.names.server == server) && (store.servers == servers) && nat_le 1 folded) (nat_le folded entries) h in
      let within : nat_le folded entries ≡ true = first.1 in
      let on : nat_le folded more ≡ true = grind (arith, nat_tests) in
      λ i. first.0 i && on i

  pub is_of_own : store.names.server ≡ server → store.servers ≡ servers → 1 ≤ folded → folded ≤ entries → is_of server servers entries folded store ≡ true
  is_of_own own all some within =
      let a : (store.names.server == server) ≡ true = grind (arith, nat_tests) in
      let b : (store.servers == servers) ≡ true = grind (arith, nat_tests) in
      let c : nat_le 1 folded ≡ true = grind (arith, nat_tests) in
      let d : nat_le folded entries ≡ true = grind (arith, nat_tests) in
      λ i. a i && b i && c i && d i

  pub is_usable : FitsState store → is_of server servers entries folded store ≡ true → IsUsable server servers entries (record { folded = folded; store = store })
  is_usable fits h =
      let is = of_is h in
      record { fits = fits; own = is.0; all = is.1; some = is.2; within = is.3 }

-- ---- of a slot

-- this is the checkpoint in the slot
pub record IsUsed (server servers entries : ℕ) (slot : Slot) (c : Checkpoint) : Type 0 where
  pub numbered : (slot.number == 0) ≡ false
  pub state : state_of slot.state ≡ Ok c.store
  pub folded : c.folded ≡ slot.folded
  pub is : is_of server servers entries slot.folded c.store ≡ true

by_number : (b : Bool) (x : Option Checkpoint) (c : Checkpoint) → (if b then None else x) ≡ Some c → (b ≡ false) × (x ≡ Some c)
by_number true x c h = absurd (let e : None ≡ Some c = h in cc)
by_number false x c h = (refl, h)

by_test : (b : Bool) (x c : Checkpoint) → (if b then Some x else None) ≡ Some c → (b ≡ true) × (x ≡ c)
by_test true x c h = (refl, (let e : Some x ≡ Some c = h in cc))
by_test false x c h = absurd (let e : None ≡ Some c = h in cc)

module _ (server servers entries : ℕ) where
  by_state : (folded : ℕ) (r : Result Store PacketError) (c : Checkpoint) → usable_store server servers entries folded r ≡ Some c
      → (r ≡ Ok c.store) × (c.folded ≡ folded) × (is_of server servers entries folded c.store ≡ true)
  by_state folded (Err e) c h = absurd (let e : None ≡ Some c = h in cc)
  by_state folded (Ok store) c h =
      let found = by_test (is_of server servers entries folded store) (record { folded = folded; store = store }) c h in
      let stores : store ≡ c.store = ap (λ (x : Checkpoint). x.store) found.1 in
      (ap Ok stores, sym (ap (λ (x : Checkpoint). x.folded) found.1), subst (λ (x : Store). is_of server servers entries folded x ≡ true) stores found.0)

  pub usable_is : (slot : Slot) (c : Checkpoint) → usable server servers entries (Some slot) ≡ Some c → IsUsed server servers entries slot c
  usable_is slot c h =
      let some = by_number (slot.number == 0) (usable_store server servers entries slot.folded (state_of slot.state)) c h in
      let state = by_state slot.folded (state_of slot.state) c some.1 in
      record { numbered = some.0; state = state.0; folded = state.1; is = state.2 }

  -- nobody saved it
  pub usable_none : (slot : Slot) → slot.number ≡ 0 → usable server servers entries (Some slot) ≡ None
  usable_none slot none =
      let test : (slot.number == 0) ≡ true = grind (arith, nat_tests) in
      ap (λ (b : Bool). if b then None else usable_store server servers entries slot.folded (state_of slot.state)) test

  -- it is read
  pub usable_read : (slot : Slot) (r : Result Store PacketError) → (slot.number == 0) ≡ false → state_of slot.state ≡ r
      → usable server servers entries (Some slot) ≡ usable_store server servers entries slot.folded r
  usable_read slot r some read =
      ap (λ (b : Bool). if b then None else usable_store server servers entries slot.folded (state_of slot.state)) some
      ∙ ap (usable_store server servers entries slot.folded) read

  pub used_is : (slot : Slot) (c : Checkpoint) → IsUsed server servers entries slot c → usable server servers entries (Some slot) ≡ Some c
  used_is slot c used =
      usable_read slot (Ok c.store) used.numbered used.state
      ∙ ap (λ (b : Bool). if b then Some (record { folded = slot.folded; store = c.store }) else None) used.is
      ∙ ap (λ (n : ℕ). Some (record { folded = n; store = c.store })) (sym used.folded)
