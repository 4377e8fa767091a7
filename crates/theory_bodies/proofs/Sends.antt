-- What a server sends is true where what it notes and holds is.
use Rattle.std.proofs.Common.{◌≡◌, ◌⊎◌, ℕ, Bool, true, false, cond, List, [], ◌∷◌, ◌++◌, Option, None, Some, reverse, inl, inr, refl, sym, ap, subst, ◌∙◌}
use Rattle.std.proofs.lemmas.List.{reverse-append}
use Rattle.std.specs.Option.{option_and_then, option_map}
use Rattle.pg_base.specs.declared.head.Head.{Head}
use Rattle.pg_base.specs.declared.id.FileId.{FileId}
use Rattle.pg_base.specs.declared.policy.Policy.{Policy}
use Rattle.pg_base.specs.declared.stamp.Stamp.{Stamp}
use Rattle.pg_base.specs.Version.{VersionValue}
use Rattle.pg_content.specs.Content.{Among}
use Rattle.pg_content.specs.History.{IsMember, Made, is_same_stamp}
use Rattle.pg_content.proofs.Numbers.{member_of}
use Rattle.pg_delta.specs.declared.delta.KeptDelta.{KeptDelta}
use Rattle.pg_delta.specs.Chain.{LeadsBy, are_same_stamps, chain, only}
use Rattle.pg_delta.specs.Leading.{AreTrueDeltas, IsTrueDelta}
use Rattle.pg_delta.specs.Taking.{delta_to}
use Rattle.pg_delta.proofs.Chains.{same_stamps}
use Rattle.pg_delta.proofs.Leads.{leads_to_body}
use Rattle.theory_bodies.specs.Book.{Book, IsHeadIn, IsVersionIn, body_in}
use Rattle.theory_bodies.specs.Protocol.{IsSound, Protocol}
use Rattle.theory_bodies.specs.Rule.{HasHead, MayAnnounce, MayChange, MayGive, MaySend}
use Rattle.theory_bodies.specs.Telling.{IsSlice, IsTrue, Telling}
use Rattle.theory_bodies.specs.Telling.Telling.{Announces, Brings, Changes, Gives, Silent}
use Rattle.theory_bodies.proofs.Books.{version_body, version_head}

-- ---- where true deltas lead from are versions of the history

module _ (policy : Policy) (h : List Made) (from : List Stamp) where
  abbrev AllThere : Type 0
  AllThere = (s : Stamp) → Among s from → IsMember h s

  by_steps : (d : KeptDelta) (o : Option (List KeptDelta)) (steps : List KeptDelta)
      → ((ds : List KeptDelta) → o ≡ Some ds → AllThere) → option_map (λ ds. d ∷ ds) o ≡ Some steps → AllThere
  by_steps d None steps before e = absurd (let x : None ≡ Some steps = e in cc)
  by_steps d (Some ds) steps before e = before ds refl

  by_start : (d : KeptDelta) (earlier : List KeptDelta) (o : Option Stamp) (steps : List KeptDelta)
      → ((to : Stamp) (more : List KeptDelta) → chain earlier from to ≡ Some more → AllThere)
      → option_map (λ ds. d ∷ ds) (option_and_then (λ s. chain earlier from s) o) ≡ Some steps → AllThere
  by_start d earlier None steps before e = absurd (let x : None ≡ Some steps = e in cc)
  by_start d earlier (Some s) steps before e = by_steps d (chain earlier from s) steps (before s) e

  by_from : (t : Bool) (d : KeptDelta) (earlier : List KeptDelta) (steps : List KeptDelta) → are_same_stamps d.from from ≡ t
      → IsTrueDelta policy h d → ((to : Stamp) (more : List KeptDelta) → chain earlier from to ≡ Some more → AllThere)
      → cond t (Some (d ∷ [])) (option_map (λ ds. d ∷ ds) (option_and_then (λ s. chain earlier from s) (only d.from))) ≡ Some steps
      → AllThere
  by_from true d earlier steps here k before e =
      let same = same_stamps d.from from here in
      λ s l. k.from s (subst (Among s) (sym same) l)
  by_from false d earlier steps here k before e = by_start d earlier (only d.from) steps before e

  by_to : (t : Bool) (d : KeptDelta) (earlier : List KeptDelta) (to : Stamp) (steps : List KeptDelta)
      → IsTrueDelta policy h d → ((to : Stamp) (more : List KeptDelta) → chain earlier from to ≡ Some more → AllThere)
      → cond t (cond (are_same_stamps d.from from) (Some (d ∷ [])) (option_map (λ ds. d ∷ ds) (option_and_then (λ s. chain earlier from s) (only d.from)))) (chain earlier from to) ≡ Some steps
      → AllThere
  by_to true d earlier to steps k before e = by_from (are_same_stamps d.from from) d earlier steps refl k before e
  by_to false d earlier to steps k before e = before to steps e

  chain_members : (deltas : List KeptDelta) → AreTrueDeltas policy h deltas → (to : Stamp) (steps : List KeptDelta)
      → chain deltas from to ≡ Some steps → AllThere
  chain_members [] k to steps e = absurd (let x : None ≡ Some steps = e in cc)
  chain_members (d ∷ earlier) k to steps e =
      by_to (is_same_stamp d.to to) d earlier to steps (k d (inl refl))
      (chain_members earlier (λ x l. k x (inr l))) e

among_append : (xs ys : List KeptDelta) (d : KeptDelta) → Among d (xs ++ ys) → Among d xs ⊎ Among d ys
among_append [] ys d l = inr l
among_append (x ∷ xs) ys d l = elim l [
  | inl here ↦ inl (inl here)
  | inr there ↦ elim (among_append xs ys d there) [ inl a ↦ inl (inr a) | inr z ↦ inr z ]
]

pub among_reverse : (xs : List KeptDelta) (d : KeptDelta) → Among d (reverse xs) → Among d xs
among_reverse [] d l = absurd l
among_reverse (x ∷ xs) d l = elim (among_append (reverse xs) (x ∷ []) d (subst (Among d) (reverse-append (x ∷ []) xs) l)) [
  | inl a ↦ inr (among_reverse xs d a)
  | inr z ↦ elim z [ inl here ↦ inl here | inr none ↦ absurd none ]
]

-- what is sent of true deltas is a true delta
pub led_delta : (policy : Policy) (h : List Made) (kept : List KeptDelta) → AreTrueDeltas policy h kept → (from : List Stamp)
    (to : Stamp) (c : _) → IsMember h to → LeadsBy kept from to c → IsTrueDelta policy h (delta_to from to c)
led_delta policy h kept k from to c there led = record {
  from = chain_members policy h from (reverse kept) (λ d l. k d (among_reverse kept d l)) to led.steps led.chain;
  to = there;
  body = leads_to_body policy h kept k from to c led;
}

-- ---- what may be sent

module _ {N M : Type 0} (p : Protocol N M) (b : Book) (Was : Telling → Type 0) (s : ℕ) (a : N) (k : IsSound p b Was s a) where
  has_version : (file : FileId) (v : VersionValue) → HasHead p a file v → IsVersionIn b file v
  has_version file v h =
      let r = (k.holds file h.holding h.held).heads v h.among in
      record { made = r.0; among = r.1; whole = r.2 }

  has_head : (file : FileId) (v : VersionValue) (head : Head) → HasHead p a file v → v.head ≡ head → IsHeadIn b file head
  has_head file v head h e = subst (IsHeadIn b file) e (version_head b file v (has_version file v h))

  announced_true : (file : FileId) (head : Head) → MayAnnounce p a file head → IsHeadIn b file head
  announced_true file head m = elim m.knows [
    | inl v ↦ has_head file v.0 head v.1 v.2
    | inr n ↦ subst (IsHeadIn b file) n.3 (k.notes file n.0 n.1 n.2).head
  ]

  given_true : (file : FileId) (head : Head) (offset : ℕ) (bytes : List ℕ) → MayGive p a file head offset bytes
      → IsHeadIn b file head × IsSlice (body_in b file head.stamp) offset bytes
  given_true file head offset bytes m =
      let is = has_version file m.version m.has in
      let P : List ℕ → Type 0 = λ ys. IsSlice ys offset bytes in (
        has_head file m.version head m.has m.is,
        subst P (version_body b file m.version is ∙ ap (λ (z : Head). body_in b file z.stamp) m.is) m.slice,
      )

  changed_true : (file : FileId) (head : Head) (bases : List Stamp) (ranges : _) → MayChange p a file head bases ranges
      → IsHeadIn b file head × IsTrueDelta (b.policy file) (b.made file) (delta_to bases head.stamp ranges)
  changed_true file head bases ranges m =
      let of : IsHeadIn b file head =
      has_head file m.version head (record { holding = m.holding; held = m.held; among = m.among }) m.is in
      let there : IsMember (b.made file) head.stamp =
      subst (IsMember (b.made file)) (sym (ap (λ (z : Head). z.stamp) of.whole)) (member_of (b.made file) of.made of.among) in (
        of,
        led_delta (b.policy file) (b.made file) m.holding.kept (k.holds file m.holding m.held).kept bases head.stamp ranges there m.leads,
      )

  -- WHAT IS SENT IS TRUE
  pub sent_true : (t : Telling) → MaySend p a t → IsTrue b t
  sent_true (Announces from to file tag head) m = announced_true file head m
  sent_true (Brings file version) m = has_version file version m
  sent_true (Gives from file head offset bytes) m = given_true file head offset bytes m
  sent_true (Changes from file head bases ranges) m = changed_true file head bases ranges m
  sent_true Silent m = tt
