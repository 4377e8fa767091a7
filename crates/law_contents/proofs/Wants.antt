-- A Want comes: what is sent of a body is so of it.
use Rattle.std.proofs.Common.{ℕ, ◌≡◌, ◌==◌, Bool, true, false, cond, List, [], ◌∷◌, min, length, take, drop, Option, None, Some, option_map, refl, sym, ap, subst, ◌∙◌, inl, inr, arith}
use Rattle.std.specs.Ordering.{eq_by_cmp}
use Rattle.std.proofs.lemmas.Bool.{cases_lt}
use Rattle.std.proofs.lemmas.List.{length-take, take_all}
use Rattle.pg_run.specs.pg_base.declared.id.FileId.{FileId}
use Rattle.pg_run.specs.pg_base.declared.policy.Policy.{Policy}
use Rattle.pg_run.specs.pg_base.declared.stamp.Stamp.{Stamp}
use Rattle.pg_run.specs.pg_base.Stamp.{stamp_cmp}
use Rattle.pg_run.specs.pg_base.Version.{VersionValue}
use Rattle.pg_run.specs.pg_patch.Ranges.{RangesValue}
use Rattle.pg_run.specs.pg_content.Content.{Among, head_at}
use Rattle.pg_run.specs.pg_content.History.{IsMember}
use Rattle.pg_run.proofs.pg_content.Numbers.{member_of}
use Rattle.pg_run.specs.pg_delta.Whole.{delta_of}
use Rattle.pg_run.specs.pg_msg.declared.message.Ends.{Ends}
use Rattle.pg_run.specs.pg_msg.declared.message.Message.TheVariants as message
use Rattle.pg_run.specs.pg_msg.declared.message.Piece.{Piece}
use Rattle.pg_run.specs.pg_msg.declared.message.Wanted.{Wanted}
use Rattle.pg_run.specs.pg_msg.declared.work.Work.{Work}
use Rattle.pg_run.specs.pg_msg.Ends.{back}
use Rattle.pg_run.specs.pg_msg.Work.{new_work}
use Rattle.pg_run.specs.pg_names.Names.{is_dir}
use Rattle.pg_run.specs.pg_pieces.declared.accepting.EdgeUse.TheVariants as manner
use Rattle.pg_run.specs.pg_pieces.Accepting.{accept, is_accepted}
use Rattle.pg_run.specs.pg_pieces.Done.{Done, idle}
use Rattle.pg_run.specs.pg_replica.declared.replica.Replica.{Replica}
use Rattle.pg_run.specs.pg_replica.Replicas.{or_nothing}
use Rattle.pg_run.specs.Journal.{Born, made_for}
use Rattle.pg_run.specs.pg_server.pg_transfer.Asking.{put_off}
use Rattle.pg_run.specs.pg_server.pg_transfer.Want.{answered, answered_along, given, given_as, most_in_piece, want}
use Rattle.pg_run.specs.pg_store.declared.store.Store.{Store}
use Rattle.pg_run.specs.pg_store.Store.{replica_at, replica_of}
use Rattle.pg_run.specs.theory_bodies.Book.{IsVersionOf}
use Rattle.pg_run.specs.theory_bodies.Telling.{IsSlice}
use Rattle.pg_run.proofs.theory_bodies.Books.{version_body, version_head}
use Rattle.pg_run.proofs.theory_bodies.Computing.{computed_leads}
use Rattle.pg_run.proofs.theory_bodies.Sends.{led_delta}
use Rattle.pg_run.proofs.theory_flood_pieces.Choices.{chosen}
use Rattle.law_contents.proofs.Changes.{core_of}
use Rattle.law_contents.proofs.Handlers.{accept_quiet}
use Rattle.law_contents.proofs.Quiet.{Quiet, quiet_idle, quiet_posted, quiet_then}
use Rattle.law_contents.proofs.Sending.{head_version}
use Rattle.law_contents.proofs.Servers.{Came, IsServer, Stands, stands_kept}
use Rattle.law_contents.proofs.Transfer.{book}

-- ---- bytes of a body

-- the first of them are as many as they are
first_by : (m n : ℕ) (xs : List ℕ) → length (take m xs) ≡ n → n ≡ min m (length xs)
    → take m xs ≡ take n xs
first_by m n xs long is = elim (cases_lt m (length xs)) [
  | inl few ↦ (let same : m ≡ n = omega arith in ap (λ (k : ℕ). take k xs) same)
  | inr all ↦ take_all m xs all ∙ sym (take_all n xs (omega arith))
]

first_bytes : (m : ℕ) (xs : List ℕ) → take m xs ≡ take (length (take m xs)) xs
first_bytes m xs = first_by m (length (take m xs)) xs refl (length-take m xs)

-- ---- heads

same_head : (x y : VersionValue) → Some x ≡ Some y → y ≡ x
same_head x y e = cc

-- the head of a stamp is one of them
head_by : (here : Bool) (v w : VersionValue) (vs : List VersionValue) (stamp : Stamp)
    → ((x : VersionValue) → head_at vs stamp ≡ Some x → Among x vs)
    → cond here (Some v) (head_at vs stamp) ≡ Some w → Among w (v ∷ vs)
head_by true v w vs stamp rest e = inl (same_head v w e)
head_by false v w vs stamp rest e = inr (rest w e)

pub head_among : (vs : List VersionValue) (stamp : Stamp) (v : VersionValue)
    → head_at vs stamp ≡ Some v → Among v vs
head_among [] stamp v e = absurd (let z : None ≡ Some v = e in cc)
head_among (w ∷ vs) stamp v e =
    head_by (eq_by_cmp stamp_cmp stamp w.head.stamp) w v vs stamp (head_among vs stamp) e

-- ---- what is sent of a version that is held

module _ {s : ℕ} {b : Store} {us : List Born} {p : FileId → Policy} {came : Came}
    (k : Stands s b us p came) (N : FileId → Type 0) (ends : Ends) (w : Work) where
  abbrev Sends : Work → Type 0
  Sends v = Quiet us p N b w (idle b v)

  abbrev file : FileId
  file = ends.file

  off_quiet : (stamp : Stamp) → Sends (put_off b ends stamp w)
  off_quiet stamp = quiet_posted us p N b b w.from (message.Later (back ends) stamp) w tt

  module _ (v : VersionValue) (is : IsVersionOf (p file) (made_for file us) v) where
    given_quiet : (offset : ℕ) → Sends (given b ends v offset w)
    given_quiet offset =
        let bytes = take most_in_piece (drop offset v.body) in
        let P : List ℕ → Type 0 = (λ body. IsSlice body offset bytes) in
        let piece : Piece = record { head = v.head; offset = offset; bytes = bytes } in
        quiet_posted us p N b b w.from (message.Piece (back ends) piece) w (
          version_head (book us p) file v is,
          subst P (version_body (book us p) file v is)
              (first_bytes most_in_piece (drop offset v.body)),
        )

    module _ (x : Replica) (there : replica_at b file ≡ Some x) (heads : List Stamp) where
      member : IsMember (made_for file us) v.head.stamp
      member =
          subst (IsMember (made_for file us)) (sym (ap (λ (y : VersionValue). y.head.stamp) is.whole))
          (member_of (made_for file us) is.made is.among)

      given_as_quiet : (o : Option RangesValue)
          → delta_of x.kept heads v.head.stamp v.head.length ≡ o
          → Sends (given_as o b ends v heads w)
      given_as_quiet None e = given_quiet 0
      given_as_quiet (Some ranges) e =
          let here = ap (option_map core_of) there in
          let led = computed_leads x.kept (k.ranges file (core_of x) here) heads v.head.stamp
          v.head.length ranges e in
          quiet_posted us p N b b w.from
          (message.Delta (back ends) (record { head = v.head; from = heads; ranges = ranges })) w (
            version_head (book us p) file v is,
            led_delta (p file) (made_for file us) x.kept (k.kept file (core_of x) here) heads
                v.head.stamp ranges member led,
            led.ranges,
          )

  module _ (wanted : Wanted) where
    by_head : (x : Replica) → replica_at b file ≡ Some x → (o : Option VersionValue)
        → head_at x.content.heads wanted.stamp ≡ o → Sends (answered o x b ends wanted w)
    by_head x there None e = off_quiet wanted.stamp
    by_head x there (Some v) e =
        let is = head_version k N file (Some (core_of x)) (ap (option_map core_of) there) v
        (head_among x.content.heads wanted.stamp v e) in
        chosen Sends (wanted.offset == 0)
        (given_as (delta_of x.kept wanted.heads v.head.stamp v.head.length) b ends v wanted.heads w)
        (given b ends v wanted.offset w)
        (given_as_quiet v is x there wanted.heads
        (delta_of x.kept wanted.heads v.head.stamp v.head.length) refl)
        (given_quiet v is wanted.offset)

    by_replica : (o : Option Replica) → replica_at b file ≡ o
        → Sends (answered (head_at (or_nothing o).content.heads wanted.stamp) (or_nothing o) b ends
        wanted w)
    by_replica None e = off_quiet wanted.stamp
    by_replica (Some x) e = by_head x e (head_at x.content.heads wanted.stamp) refl

    pub answered_quiet : Sends (answered (head_at (replica_of b file).content.heads wanted.stamp)
        (replica_of b file) b ends wanted w)
    answered_quiet = by_replica (replica_at b file) refl

module _ {s : ℕ} {a : Store} {us : List Born} {p : FileId → Policy} {N : FileId → Type 0}
    {came : Came} (k : IsServer s a us p N came) (from : ℕ) (ends : Ends) (wanted : Wanted) where
  abbrev work : Work
  work = new_work 0 from

  abbrev Quietly : Done → Type 0
  Quietly d = Quiet us p N a work d

  abbrev linked : Done
  linked = accept a ends manner.Needs work

  linked_quiet : Quietly linked
  linked_quiet = accept_quiet us p N a work ends manner.Needs

  given_then : Quietly (answered_along true ends wanted linked)
  given_then =
      quiet_then us p N linked_quiet
      (answered_quiet (stands_kept k.stands linked.store linked_quiet.keeps) N ends linked.work
      wanted)

  -- A WANT
  pub want_quiet : Quietly (want a ends wanted work)
  want_quiet =
      chosen Quietly (is_dir ends.file) (idle a work) _ (quiet_idle us p N a work)
      (chosen Quietly (is_accepted a from manner.Needs ends) (answered_along true ends wanted linked)
      linked given_then linked_quiet)
