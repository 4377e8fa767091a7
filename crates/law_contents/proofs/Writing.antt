-- A version that a server makes on all heads that it holds: it may be made, and the server stands
-- for it from then on.
use Rattle.std.proofs.Common.{ℕ, ◌≡◌, ◌<◌, ◌≤◌, ◌^◌, List, ◌∷◌, map, refl, sym, ap, subst, ◌∙◌, inl, inr, arith}
use Rattle.pg_run.specs.pg_base.declared.policy.Policy.{Policy}
use Rattle.pg_run.specs.pg_base.declared.stamp.Stamp.{Stamp}
use Rattle.pg_run.specs.pg_base.declared.vector.Actor.{Actor}
use Rattle.pg_run.specs.pg_base.Vector.{number_at}
use Rattle.pg_run.specs.pg_base.Version.{VersionValue, stamp_of}
use Rattle.pg_run.specs.pg_content.Content.{Among, ContentValue, joined_all, one_more, written}
use Rattle.pg_run.specs.pg_content.History.{IsAncestor, IsHistory, IsMember, IsNext, Made, maker, vector_of}
use Rattle.pg_run.specs.pg_content.StandsFor.{StandsFor}
use Rattle.pg_run.proofs.pg_content.Members.{among_all, among_map}
use Rattle.pg_run.proofs.pg_content.Numbers.{bases_from, made_of as member_made, more_cases, more_same, vector_here}
use Rattle.pg_run.proofs.pg_content.StandsWritten.{may_be_made, stands_written}
use Rattle.pg_run.specs.Journal.{Born, made_for, made_of, with_ancestors}
use Rattle.law_contents.proofs.Files.{HoldsFile, file_wrote}
use Rattle.law_contents.proofs.Histories.{AreMade, IsNextUpdate, update_of}
use Rattle.law_contents.proofs.Times.{number_upto, taken_upto}
use Rattle.law_contents.proofs.Sets.{AreMembers}

-- a server may make this version now: on all heads of what it holds of the file, with a time that
-- is later than its clock's
pub record IsWrite (s : ℕ) (last : ℕ) (p : Policy) (c : ContentValue) (us : List Born)
    (set : List Stamp) (u : Born) : Type 0 where
  pub made : AreMade us
  pub ready : HoldsFile (λ m. maker m ≡ maker (made_of u)) p c (made_for u.made.file us) set
  pub known : AreMembers (made_for u.made.file us) set
  pub upto : (t : Stamp) → Among t set → t.time ≤ last
  pub based : u.made.bases ≡ map stamp_of c.heads
  pub server : u.made.stamp.server ≡ s
  pub later : last < u.made.stamp.time
  pub few : s < 2 ^ 32
  pub birth : u.birth < 2 ^ 64
  pub room : (v : VersionValue) → Among v c.heads → last < 2 ^ 63
  pub fresh : (v : Born) → Among v us → v.made.stamp ≡ u.made.stamp → ⊥

module _ {s : ℕ} {last : ℕ} {p : Policy} {c : ContentValue} {us : List Born}
    {set : List Stamp} {u : Born} (i : IsWrite s last p c us set u) where
  abbrev h : List Made
  h = made_for u.made.file us

  abbrev before : List Stamp
  before = with_ancestors h set

  abbrev m : Made
  m = made_of u

  held_stands : StandsFor c h before
  held_stands = i.ready.stood.stands

  taken_before : (t : Stamp) → Among t before → t.time ≤ last
  taken_before t l = taken_upto us i.made last u.made.file set i.upto t l

  no_member : IsMember h u.made.stamp → ⊥
  no_member is =
      let x = member_made h u.made.stamp is in
      let v = update_of u.made.file x.0 us x.1 in
      i.fresh v.0 v.1 (ap (λ (y : Made). y.stamp) (sym v.3) ∙ x.2)

  next_may : IsNext h m
  next_may =
      may_be_made m h c before held_stands i.based
      (i.made.histories u.made.file) no_member
      (λ e l same. i.ready.stood.own e l same)
      (let P : ℕ → Type 0 = (λ j. j < 2 ^ 32) in subst P (sym i.server) i.few) i.birth
      (among_all (λ (v : VersionValue). number_at v.head.vector (maker m) < 2 ^ 63)
      c.heads (λ v l. let up = number_upto us i.made last u.made.file set i.upto i.ready.stood v l
      (maker m) in let room = i.room v l in omega arith))

  pub next_history : IsHistory (m ∷ h)
  next_history = (next_may, i.made.histories u.made.file)

  next_order : (t : Stamp) → IsAncestor (m ∷ h) t u.made.stamp → t.time ≤ u.made.stamp.time
  next_order t up = elim ((stands_written m h next_history
      c before held_stands i.based).closed.ancestors u.made.stamp t
      (inl refl) up) [
        | inl itself ↦ (let P : Stamp → Type 0 = (λ x. x.time ≤ u.made.stamp.time) in
            subst P (sym itself) (omega arith))
        | inr earlier ↦ (let upto = taken_before t earlier in let later = i.later in
            omega arith)
      ]

  -- no number that a base knows is later than the clock
  base_number : (b : Stamp) (q : Actor) → Among b m.bases → number_at (vector_of h b) q ≤ last
  base_number b q l =
      let x = among_map stamp_of c.heads b (subst (Among b) i.based l) in
      let r = held_stands.heads x.0 x.1 in
      let upto = i.made.numbers u.made.file r.made r.member q in
      let early = taken_before r.made.stamp r.head.0 in
      let P : Stamp → Type 0 = (λ t. number_at (vector_of h t) q ≤ last) in
      subst P (sym (x.2 ∙ ap (λ (v : VersionValue). v.head.stamp) r.version)) (omega arith)

  -- what all bases know
  abbrev all_known : List (Actor × ℕ)
  all_known = joined_all (map (vector_of h) m.bases)

  known_number : (q : Actor) → number_at all_known q ≤ last
  known_number q = elim (bases_from h (i.made.histories u.made.file) m.bases q) [
    | inl none ↦ omega arith
    | inr r ↦ (let upto = base_number r.0 q r.1 in let e = r.2 in omega arith)
  ]

  more_number : (q : Actor) → number_at (one_more all_known (maker m)) q ≤ u.made.stamp.time
  more_number q =
      let upto = known_number q in
      let later = i.later in
      elim (more_cases all_known (maker m) q) [
        | inl own ↦
            let own_upto = known_number (maker m) in
            let e = more_same all_known (maker m) in
            let P : Actor → Type 0 =
            (λ x. number_at (one_more all_known (maker m)) x ≤ u.made.stamp.time) in
            subst P (sym own) (omega arith)
        | inr stays ↦ omega arith
      ]

  -- so it is the next of those that were made
  pub next_update : IsNextUpdate us u
  next_update = record {
    next = next_may;
    order = next_order;
    numbers = λ q. let e = ap (λ v. number_at v q) (vector_here m h u.made.stamp refl) in
        let upto = more_number q in omega arith;
    fresh = i.fresh;
  }

  -- and the server holds what comes of it
  pub next_file
      : HoldsFile (λ e. maker e ≡ maker m) p (written c (maker m) u.made.stamp u.made.ranges) (m ∷ h)
      (u.made.stamp ∷ set)
  next_file = file_wrote i.ready i.known m next_history i.based
