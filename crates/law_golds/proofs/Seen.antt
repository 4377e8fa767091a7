-- What sees no live gold, and what of it reaches a full replica.
use Rattle.std.proofs.Common.{ℕ, ◌≡◌, ◌≤◌, ◌&&◌, not, nat_lt, Bool, true, false, List, Option, None, Some, is_some, refl, sym, ap, subst, ◌∙◌, inl, arith}
use Rattle.std.specs.Prelude.{Contains}
use Rattle.std.specs.List.{IsAmong}
use Rattle.std.proofs.lemmas.Bool.{false≢true}
use Rattle.std.proofs.lemmas.Bool.Decides.{nat_tests}
use Rattle.law_frame.specs.pg_run.pg_base.declared.id.FileId.{FileId}
use Rattle.law_frame.proofs.pg_run.pg_content.Members.{any_found}
use Rattle.law_frame.specs.pg_run.pg_event.declared.event.Event.{Event}
use Rattle.law_frame.specs.pg_run.pg_names.Names.{InodeValue, known, own_of}
use Rattle.law_frame.specs.pg_run.pg_register.declared.flag.Flag.{Flag}
use Rattle.law_frame.specs.pg_run.pg_register.Flag.{flag_of, is_live}
use Rattle.law_frame.specs.pg_run.pg_replica.declared.replica.Replica.{Replica}
use Rattle.law_frame.specs.pg_run.pg_replica.Replicas.{or_nothing}
use Rattle.law_frame.specs.pg_run.pg_store.declared.store.Store.{Store}
use Rattle.law_frame.specs.pg_run.pg_store.Births.{birth_of}
use Rattle.law_frame.specs.pg_run.pg_store.Seen.{removed_of, server_of}
use Rattle.law_frame.specs.pg_run.pg_store.Store.{replica_at}
use Rattle.law_frame.specs.pg_run.pg_pieces.Golds.{is_goldless, is_goldless_held, is_of_later, sees_gold}
use Rattle.law_frame.specs.pg_run.theory_flood_pieces.Whole.{IsWhole}
use Rattle.law_frame.specs.pg_run.Births.{BirthsAreAlone, BirthsAreKnown, WasGivenOut}
use Rattle.law_frame.specs.pg_run.Golds.{FullSeeGold, IsLiveGold}
use Rattle.law_frame.specs.pg_run.Run.{run}
use Rattle.law_frame.proofs.pg_run.Found.{flag_found}
use Rattle.law_frame.proofs.pg_run.Lists.{among_contained}

-- nothing sees no live gold, but where the server's flag is of a later birth
abbrev pub NoneGoldless : Store → Type 0
NoneGoldless a = (file : FileId) → is_goldless a file ≡ false

-- of the same names, and births
pub goldless_alike : (a b : Store) → b.names ≡ a.names → ((file : FileId) → birth_of b file ≡ birth_of a file)
    → NoneGoldless a → NoneGoldless b
goldless_alike a b names births none file =
    ap (λ n. is_goldless_held n.removed n.server (birth_of b file) (known n file)) names
    ∙ ap (λ k. is_goldless_held (removed_of a) (server_of a) k (known a.names file)) (births file) ∙ none file

sees_by : (sees later : Bool) → later ≡ false → (not sees && not later) ≡ false → sees ≡ true
sees_by true later none h = refl
sees_by false later none h = absurd (false≢true (sym h ∙ ap not none))

not_later : (a b : ℕ) → b ≤ a → nat_lt a b ≡ false
not_later a b h = grind (arith, nat_tests)

module _ (n : ℕ) (births : BirthsAreKnown n) (alone : BirthsAreAlone n) (events : List Event) (s : ℕ) (least : 1 ≤ s) (most : s ≤ n)
    (whole : IsWhole n s ((run n events).stores s)) (none : NoneGoldless ((run n events).stores s)) where
  abbrev A : Store
  A = (run n events).stores s

  module _ (file : FileId) (x : InodeValue) (held : known A.names file ≡ Some x) where
    replica_by : (o : Option Replica) → replica_at A file ≡ o → is_some o ≡ true → (r : Replica) × (replica_at A file ≡ Some r)
    replica_by None is h = absurd (false≢true h)
    replica_by (Some r) is h = (r, is)

    replica : (r : Replica) × (replica_at A file ≡ Some r)
    replica = replica_by (replica_at A file) refl (whole.together file ∙ ap (λ (o : Option InodeValue). is_some o) held)

    birth_is : birth_of A file ≡ replica.0.birth
    birth_is = ap (λ (o : Option Replica). (or_nothing o).birth) replica.1

    -- the server's own flag has no later birth than its replica
    own_birth : (f : Flag) → flag_of x.own.flags (server_of A) ≡ Some f → f.birth ≤ birth_of A file
    own_birth f is =
        let k = flag_found x.own.flags (server_of A) f is in
        let c = among_contained x.own.flags f k.0 in
        let among : IsAmong x.own.flags f = (c.0, (c.1, sym c.2)) in
        let given = (births events).flags s least most file x.own f (ap own_of held) among in
        let Given : ℕ → Type 0 = λ m. WasGivenOut n events file m f.birth in
        let mine : f.server ≡ s = k.1 ∙ whole.server in
        subst (λ (m : ℕ). f.birth ≤ m) (sym birth_is)
        ((alone events s least most file).greatest f.birth replica.0.birth (subst Given mine given) (inl (replica.0, replica.1, refl)))

    later_by : (o : Option Flag) → flag_of x.own.flags (server_of A) ≡ o → is_of_later (birth_of A file) o ≡ false
    later_by None is = refl
    later_by (Some f) is = not_later (birth_of A file) f.birth (own_birth f is)

    sees : x.full ≡ true → sees_gold (removed_of A) x.own.flags ≡ true
    sees full =
        let own = flag_of x.own.flags (server_of A) in
        let later = is_of_later (birth_of A file) own in
        let gold = sees_gold (removed_of A) x.own.flags in
        sees_by gold later (later_by own refl)
        (ap (λ (t : Bool). t && (not gold && not later)) (sym full)
        ∙ ap (is_goldless_held (removed_of A) (server_of A) (birth_of A file)) (sym held) ∙ none file)

    seen : x.full ≡ true → (flag : Flag) × Contains x.own.flags flag × IsLiveGold A flag
    seen full =
        let f = any_found (is_live (removed_of A)) x.own.flags (sees full) in
        (f.0, among_contained x.own.flags f.0 f.1, f.2)

  pub full_see_gold : FullSeeGold A
  full_see_gold file x held full = seen file x held full
