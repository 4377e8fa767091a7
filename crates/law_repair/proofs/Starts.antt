-- The first moment of a thing: only its maker holds it, or it is the root, of which all servers
-- know the same at the start.
use Rattle.std.proofs.Common.{ℕ, ◌≡◌, ◌≤◌, ◌<◌, ◌==◌, ◌||◌, zero, suc, Bool, true, false, cond, List, [], ◌∷◌, ◌++◌, Option, None, Some, is_some, option_map, refl, sym, ap, subst, ◌∙◌, inl, inr, ◌⊎◌, arith}
use Rattle.std.specs.Prelude.{Contains}
use Rattle.std.proofs.lemmas.Bool.{eqb-true, false≢true, or_parts}
use Rattle.std.proofs.lemmas.Bool.Decides.{nat_tests}
use Rattle.std.proofs.lemmas.List.Elements.{All-contains}
use Rattle.pg_run.specs.pg_base.declared.id.FileId.{FileId}
use Rattle.pg_run.specs.pg_base.Id.{file_cmp, is_same_file}
use Rattle.pg_run.proofs.pg_base.Maps.{lookup-insert_entry}
use Rattle.pg_run.proofs.pg_base.Orders.{file_total, is_same_file-refl, is_same_file-true}
use Rattle.pg_run.proofs.pg_calls.Walked.{full_held}
use Rattle.pg_run.specs.pg_event.declared.event.Event.{Event}
use Rattle.pg_run.specs.pg_msg.declared.message.Ends.{Ends}
use Rattle.pg_run.specs.pg_msg.declared.message.Message.TheVariants as message
use Rattle.pg_run.specs.pg_msg.declared.message.Sent.{Sent}
use Rattle.pg_run.specs.pg_names.Names.{InodeValue, is_full_of, known, new_held, new_names, or_blank, own_of}
use Rattle.pg_run.proofs.pg_names.Holding.{begun_known}
use Rattle.pg_run.specs.pg_register.declared.flag.Flag.{Flag}
use Rattle.pg_run.specs.pg_register.Flag.{flag_of, is_raised, is_raised_with, newest}
use Rattle.pg_run.specs.pg_register.Place.{root}
use Rattle.pg_run.proofs.pg_register.ByServer.{flag_of-join_flag}
use Rattle.pg_run.specs.pg_replica.declared.replica.Replica.{Replica}
use Rattle.pg_run.specs.pg_replica.Root.{first_root}
use Rattle.pg_run.specs.pg_pieces.Golds.{flags_of}
use Rattle.pg_run.specs.pg_server.Local.{effect, first_effect}
use Rattle.pg_run.specs.pg_store.declared.store.Store.{Store}
use Rattle.pg_run.specs.pg_store.Births.{birth_of}
use Rattle.pg_run.specs.pg_store.Start.{first_flag, first_flags, root_own}
use Rattle.pg_run.specs.pg_store.Store.{is_full, is_held, new_store, replica_at}
use Rattle.pg_run.specs.pg_store.Together.{BirthsMove, IsOver, birth_at}
use Rattle.pg_run.proofs.pg_store.Over.{moves_then, over_stays}
use Rattle.pg_run.specs.theory_flood_pieces.Whole.{IsWhole}
use Rattle.law_golds.proofs.law_births.Has.{born_of}
use Rattle.law_golds.proofs.law_births.Here.{birth_is}
use Rattle.law_full.specs.Filled.{SaysFull}
use Rattle.pg_run.specs.Graphs.{Holds, IsConnected}
use Rattle.pg_run.specs.Journal.{mail}
use Rattle.pg_run.specs.Quiet.{IsQuiet}
use Rattle.pg_run.specs.Run.{World, is_live, run, start}
use Rattle.pg_run.proofs.Frame.{live_is}
use Rattle.pg_run.proofs.Lists.{among_contained, among_parts, contained_among}
use Rattle.pg_run.proofs.QuietAnswers.{at_or_below}
use Rattle.law_repair.specs.Given.{StandOn}
use Rattle.law_repair.specs.Kept.{IsGoldAt, is_held_by}
use Rattle.law_repair.proofs.GoldsThere.{held_not_over}
use Rattle.law_repair.proofs.Joining.{connected}
use Rattle.law_repair.proofs.FlagHad.{same_number}
use Rattle.law_repair.proofs.Agreed.{Agrees, AreAgreed}
use Rattle.law_repair.proofs.Steps.{IsActed, IsIdle, one_step}

-- ---- who holds

either : (x y : Bool) → (x || y) ≡ true → (x ≡ true) ⊎ (y ≡ true)
either true y h = inl refl
either false y h = inr h

-- where no server holds it, none does
pub none_holds : (w : World) (file : FileId) (m t : ℕ) → is_held_by w file m ≡ false → 1 ≤ t → t ≤ m → is_held (w.stores t) file ≡ false
none_holds w file zero t h least most = absurd (omega arith)
none_holds w file (suc k) t h least most =
    let parts = or_parts (is_held (w.stores (suc k)) file) (is_held_by w file k) h in
    elim (at_or_below k t most) [
      | inl last ↦ ap (λ (i : ℕ). is_held (w.stores i) file) last ∙ parts.0
      | inr less ↦ none_holds w file k t parts.1 least less
    ]

-- what has a replica is held
pub holds_held : (n s : ℕ) (w : World) (file : FileId) → IsWhole n s (w.stores s) → Holds w file s
    → is_held (w.stores s) file ≡ true
holds_held n s w file whole h = sym (whole.together file) ∙ ap is_some h.is

pub born_held : (n s : ℕ) (a : Store) (file : FileId) (m : ℕ) → IsWhole n s a → birth_at a file ≡ Some m → is_held a file ≡ true
born_held n s a file m whole born =
    let x = born_of (replica_at a file) m born in
    sym (whole.together file) ∙ ap is_some x.1

-- ---- the start

module _ (n : ℕ) where
  -- the flag of each server
  less_not : (k s : ℕ) → k < s → ((suc k == s) ≡ true) ⊎ ((suc k == s) ≡ false)
  less_not k s lt = by (suc k == s)
    where
      by : (t : Bool) → (t ≡ true) ⊎ (t ≡ false)
      by true = inl refl
      by false = inr refl

  none_later : (k s : ℕ) → k < s → flag_of (first_flags k) s ≡ None
  none_later zero s lt = refl
  none_later (suc k) s lt =
      let other : (suc k == s) ≡ false = grind (arith, nat_tests) in
      flag_of-join_flag (first_flag (suc k)) (first_flags k) s
      ∙ ap (λ (t : Bool). cond t (newest (flag_of (first_flags k) s) (Some (first_flag (suc k)))) (flag_of (first_flags k) s)) other
      ∙ none_later k s (omega arith)

  flag_by : (k s : ℕ) (t : Bool) → (suc k == s) ≡ t → s ≤ suc k → (s ≤ k → flag_of (first_flags k) s ≡ Some (first_flag s))
      → cond t (newest (flag_of (first_flags k) s) (Some (first_flag (suc k)))) (flag_of (first_flags k) s) ≡ Some (first_flag s)
  flag_by k s true same le rest =
      let at : suc k ≡ s = eqb-true (suc k) s same in
      ap (λ (o : Option Flag). newest o (Some (first_flag (suc k)))) (none_later k s (omega arith)) ∙ ap (λ (i : ℕ). Some (first_flag i)) at
  flag_by k s false other le rest = rest (by other le)
    where
      by : (suc k == s) ≡ false → s ≤ suc k → s ≤ k
      by other le = grind (arith, nat_tests)

  flag_first : (k s : ℕ) → 1 ≤ s → s ≤ k → flag_of (first_flags k) s ≡ Some (first_flag s)
  flag_first zero s least most = absurd (omega arith)
  flag_first (suc k) s least most =
      flag_of-join_flag (first_flag (suc k)) (first_flags k) s ∙ flag_by k s (suc k == s) refl most (λ less. flag_first k s least less)

  abbrev At : FileId → Option InodeValue
  At file = cond (is_same_file file root) (Some (new_held (root_own n) true)) None

  first_known : (s : ℕ) (file : FileId) → known (new_store n s).names file ≡ At file
  first_known s file = begun_known (new_names s) root (root_own n) true file

  flags_first : (s : ℕ) (file : FileId) → flags_of (new_store n s) file ≡ (or_blank file (own_of (At file))).flags
  flags_first s file = ap (λ (o : Option InodeValue). (or_blank file (own_of o)).flags) (first_known s file)

  full_first : (s : ℕ) (file : FileId) → is_full (new_store n s) file ≡ is_full_of (At file)
  full_first s file = ap is_full_of (first_known s file)

  pub start_agreed : (file : FileId) (k : ℕ) → AreAgreed n (start n) file k
  start_agreed file k = record {
    known = λ t live full. (
      full_first k file ∙ sym (full_first t file) ∙ full,
      ap (λ (fs : List Flag). flag_of fs k) (flags_first t file ∙ sym (flags_first k file)),
    );
    told = λ m ends there says of_file live born. absurd (let lt = there.1 in omega arith);
  }

  -- what is held is the root
  root_by : (file : FileId) (t : Bool) → is_same_file file root ≡ t → is_some (cond t (Some (new_held (root_own n) true)) None) ≡ true → file ≡ root
  root_by file true same h = is_same_file-true file root same
  root_by file false other h = absurd (false≢true h)

  root_is : (s : ℕ) (file : FileId) → is_held (new_store n s) file ≡ true → file ≡ root
  root_is s file h = root_by file (is_same_file file root) refl (ap is_some (sym (first_known s file)) ∙ h)

  root_born : (s : ℕ) → birth_at (new_store n s) root ≡ Some 1
  root_born s =
      ap (option_map (λ (x : Replica). x.birth)) (lookup-insert_entry file_cmp file_total root root (first_root s n) [])
      ∙ ap (λ t. option_map (λ (x : Replica). x.birth) (cond t (Some (first_root s n)) None)) (is_same_file-refl root)

  birth_first : (s : ℕ) → birth_of (new_store n s) root ≡ 1
  birth_first s = birth_is (new_store n s) root 1 (root_born s)

  root_flags : (s : ℕ) → flags_of (new_store n s) root ≡ first_flags n
  root_flags s =
      flags_first s root ∙ ap (λ t. (or_blank root (own_of (cond t (Some (new_held (root_own n) true)) None))).flags) (is_same_file-refl root)

  pub start_gold : (s : ℕ) → 1 ≤ s → s ≤ n → is_live n (start n) s ≡ true → IsGoldAt n (start n) root s 1
  start_gold s least most live = record {
    live = live;
    born = root_born s;
    gold = ap (λ (fs : List Flag). is_raised fs s (birth_of (new_store n s) root)) (root_flags s)
        ∙ ap (λ (m : ℕ). is_raised (first_flags n) s m) (birth_first s)
        ∙ ap (λ (o : Option Flag). is_raised_with o 1) (flag_first n s least most);
  }

-- where the start is quiet, all things that are held are connected
pub start_connected : (n : ℕ) → StandOn n → (file : FileId) → IsQuiet n (run n []) → IsConnected n (run n []) file
start_connected n on file quiet s t ls lt a b =
    let i = live_is n (start n) s ls in
    let is : file ≡ root = root_is n s file (holds_held n s (start n) file (on.holding.whole [] s i.least i.most) a) in
    let P : FileId → Type 0 = λ f. IsGoldAt n (start n) f s 1 in
    let gold : IsGoldAt n (run n []) file s 1 = subst P (sym is) (start_gold n s i.least i.most ls) in
    connected n on [] quiet file s 1 gold (λ u live full. ((start_agreed n file s).known u live full).1) s t ls lt a b

-- ---- a thing that is created in an event

module _ (n : ℕ) (on : StandOn n) (events : List Event) (event : Event) (file : FileId) (none : is_held_by (run n events) file n ≡ false) where
  abbrev W : World
  W = run n events

  abbrev More : List Event
  More = events ++ event ∷ []

  abbrev V : World
  V = run n More

  not_held : (t : ℕ) → 1 ≤ t → t ≤ n → is_held (W.stores t) file ≡ false
  not_held t least most = none_holds W file n t none least most

  -- only who takes an input may hold it
  same_by : (x : IsActed n events event) (t : ℕ) → 1 ≤ t → t ≤ n → is_held (V.stores t) file ≡ true → t ≡ x.s
  same_by x t least most held = elim (same_number t x.s) [
    | inl same ↦ same
    | inr apart ↦ absurd (false≢true (sym (not_held t least most) ∙ ap (λ (a : Store). is_held a file) (sym (x.others t apart)) ∙ held))
  ]

  idle_not : (i : IsIdle n events event) (t : ℕ) → 1 ≤ t → t ≤ n → is_held (V.stores t) file ≡ true → ⊥
  idle_not i t least most held = false≢true (sym (not_held t least most) ∙ ap (λ (a : Store). is_held a file) (sym (i.stores t)) ∙ held)

  one_holder : (s t : ℕ) → 1 ≤ s → s ≤ n → is_held (V.stores s) file ≡ true → 1 ≤ t → t ≤ n → is_held (V.stores t) file ≡ true → s ≡ t
  one_holder s t ls ms hs lt mt ht = elim (one_step n events event) [
    | inl i ↦ absurd (idle_not i s ls ms hs)
    | inr x ↦ same_by x s ls ms hs ∙ sym (same_by x t lt mt ht)
  ]

  -- nobody was told that its replica is full
  module _ (m : Sent) (ends : Ends) (says : m.packet.message ≡ message.Full ends) (of_file : ends.file ≡ file) (least : 1 ≤ m.to) (most : m.to ≤ n)
      (born : birth_at (V.stores m.to) file ≡ Some ends.receiver) where
    held_then : is_held (V.stores m.to) file ≡ true
    held_then = born_held n m.to (V.stores m.to) file ends.receiver (on.holding.whole More m.to least most) born

    born_not : birth_at (W.stores m.to) file ≡ Some ends.receiver → ⊥
    born_not was =
        false≢true (sym (not_held m.to least most) ∙ born_held n m.to (W.stores m.to) file ends.receiver (on.holding.whole events m.to least most) was)

    module _ (x : IsActed n events event) where
      abbrev A : Store
      A = W.stores x.s

      abbrev E : Store
      E = (effect A x.asked).store

      moves : BirthsMove A E
      moves = (let k = on.events.moves events event x.s x.asked x.takes in moves_then A (first_effect A x.asked).store E k.0 k.1)

      over_not : IsOver (W.stores m.to) file ends.receiver → ⊥
      over_not over =
          let same = same_by x m.to least most held_then in
          let there : IsOver A file ends.receiver = subst (λ (i : ℕ). IsOver (W.stores i) file ends.receiver) same over in
          let later : IsOver E file ends.receiver = over_stays A E file ends.receiver moves there in
          held_not_over E file ends.receiver (ap (λ (a : Store). birth_at a file) (sym (ap V.stores same ∙ x.here)) ∙ born) later

      old_not : Contains (mail W.journal) m → ⊥
      old_not there =
          let said : SaysFull W m = All-contains (SaysFull W) (mail W.journal) m (on.holding.fulls events) there in
          elim (said ends says) [
            | inl filled ↦ born_not (ap (birth_at (W.stores m.to)) (sym of_file) ∙ filled.held)
            | inr over ↦ over_not (subst (λ (f : FileId). IsOver (W.stores m.to) f ends.receiver) of_file over)
          ]

      new_not : Contains (effect A x.asked).out.sent m → ⊥
      new_not there =
          let said = on.events.said events event x.s x.asked x.takes m ends there says in
          let full : is_full A file ≡ true = ap (is_full A) (sym of_file) ∙ said.0 in
          false≢true (sym (not_held x.s x.acts.least x.acts.most) ∙ full_held A.names file full)

      acted_not : Contains (mail V.journal) m → ⊥
      acted_not there =
          let sent = (effect A x.asked).out.sent in
          elim (among_parts m sent (mail W.journal) (contained_among (sent ++ mail W.journal) m (subst (λ (ms : List Sent). Contains ms m) x.mail_is there))) [
            | inl now ↦ new_not (among_contained sent m now)
            | inr was ↦ old_not (among_contained (mail W.journal) m was)
          ]

    none_told : Contains (mail V.journal) m → ⊥
    none_told there = elim (one_step n events event) [
      | inl i ↦ born_not (ap (λ (a : Store). birth_at a file) (sym (i.stores m.to)) ∙ born)
      | inr x ↦ acted_not x there
    ]

  pub created_agreed : (k birth : ℕ) → IsGoldAt n V file k birth → AreAgreed n V file k
  created_agreed k birth g =
      let i = live_is n V k g.live in
      let here : is_held (V.stores k) file ≡ true = born_held n k (V.stores k) file birth (on.holding.whole More k i.least i.most) g.born in
      record {
        known = λ t live full. (
            let j = live_is n V t live in
            let same : t ≡ k = one_holder t k j.least j.most (full_held (V.stores t).names file full) i.least i.most here in
            let P : ℕ → Type 0 = λ u. Agrees file k (V.stores u) (V.stores k) in
            subst P (sym same) (ap (λ (u : ℕ). is_full (V.stores u) file) (sym same) ∙ full, refl));
        told = λ m ends there says of_file live born.
            (let j = live_is n V m.to live in absurd (none_told m ends says of_file j.least j.most born there));
      }

  pub created_connected : IsConnected n V file
  created_connected s t ls lt a b =
      let i = live_is n V s ls in
      let j = live_is n V t lt in
      inl (one_holder s t i.least i.most (holds_held n s V file (on.holding.whole More s i.least i.most) a)
      j.least j.most (holds_held n t V file (on.holding.whole More t j.least j.most) b))
