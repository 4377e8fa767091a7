-- Behind a Fetch, a Seek and a walk that ends, who is linked is listed.
use Rattle.std.proofs.Common.{ℕ, ◌≡◌, ◌≢◌, ◌≤◌, ◌⊎◌, ◌==◌, ◌&&◌, ◌||◌, Bool, true, false, cond, not, nat_lt, List, [], ◌∷◌, length, Option, None, Some, is_some, inl, inr, refl, sym, ap, subst, ◌∙◌, All, arith}
use Rattle.std.specs.List.{filter}
use Rattle.std.proofs.lemmas.Bool.{and_parts, false≢true}
use Rattle.std.proofs.lemmas.Bool.Decides.{Decides-eqb, nat_tests}
use Rattle.std.proofs.lemmas.List.Elements.{All-head, All-tail}
use Rattle.pg_run.specs.pg_base.declared.id.FileId.{FileId}
use Rattle.pg_run.specs.pg_edges.declared.edge.Edge.{Edge}
use Rattle.pg_run.specs.pg_msg.declared.message.Ask.TheVariants as ask
use Rattle.pg_run.specs.pg_msg.declared.message.Ends.{Ends}
use Rattle.pg_run.specs.pg_msg.declared.message.Message.{Message}
use Rattle.pg_run.specs.pg_msg.declared.message.Message.TheVariants as message
use Rattle.pg_run.specs.pg_msg.declared.work.Work.{Work}
use Rattle.pg_run.specs.pg_msg.Work.{new_work}
use Rattle.pg_run.specs.pg_replica.declared.replica.Replica.{Replica}
use Rattle.pg_run.specs.pg_replica.Replicas.{is_of_birth}
use Rattle.pg_run.specs.pg_store.declared.store.Store.{Store}
use Rattle.pg_run.specs.pg_store.Births.{has_birth}
use Rattle.pg_run.specs.pg_store.Links.{knows_later, link}
use Rattle.pg_run.specs.pg_store.Seen.{server_of}
use Rattle.pg_run.specs.pg_store.Store.{is_full, is_held, replica_at, replica_of}
use Rattle.pg_run.specs.pg_pieces.declared.accepting.EdgeUse.TheVariants as manner
use Rattle.pg_run.specs.pg_pieces.Accepting.{accept, is_accepted, is_current, link_peer, meets}
use Rattle.pg_run.specs.pg_pieces.Done.{Done, idle}
use Rattle.pg_run.specs.pg_pieces.Posting.{reply}
use Rattle.pg_run.specs.pg_graph.Seeking.{answered_seek, seek}
use Rattle.pg_run.specs.pg_graph.Walks.{goes_on, is_onward, meet_origin, onward, walk, walk_on, walked}
use Rattle.pg_run.specs.pg_repair.Fetching.{answered_fetch, fetch}
use Rattle.pg_run.specs.pg_server.Local.{receive}
use Rattle.pg_run.proofs.pg_calls.Walked.{full_held}
use Rattle.law_births.proofs.Effects.{Lists}
use Rattle.law_births.proofs.Has.{IsAlone}
use Rattle.law_links.proofs.Linked.{link_lists, within}
use Rattle.law_links.proofs.Words.{IsTestedBy}
use Rattle.law_links.specs.Links.{IsWalkEnd, LinkTo}

-- ---- where a walk ends it goes no further

some_of : (o : Option Replica) (birth : ℕ) → is_of_birth o birth ≡ true → is_some o ≡ true
some_of None birth e = absurd (false≢true e)
some_of (Some y) birth e = refl

not_onward : (from origin : ℕ) (e : Edge) → (e.peer ≡ from) ⊎ (e.peer ≡ origin)
    → is_onward from origin e ≡ false
not_onward from origin e either = by (e.peer == from) (e.peer == origin) refl refl
  where
    by : (t u : Bool) → (e.peer == from) ≡ t → (e.peer == origin) ≡ u → not (t || u) ≡ false
    by true u one two = refl
    by false true one two = refl
    by false false one two = elim either [
      | inl is ↦ absurd (false≢true (sym one ∙ (Decides-eqb e.peer from).1 is))
      | inr is ↦ absurd (false≢true (sym two ∙ (Decides-eqb e.peer origin).1 is))
    ]

none_onward : (from origin : ℕ) (es : List Edge)
    → All (λ (e : Edge). (e.peer ≡ from) ⊎ (e.peer ≡ origin)) es
    → filter (is_onward from origin) es ≡ []
none_onward from origin [] h = refl
none_onward from origin (e ∷ es) h =
    let P : Edge → Type 0 = λ z. (z.peer ≡ from) ⊎ (z.peer ≡ origin) in
    ap (λ t. cond t (e ∷ filter (is_onward from origin) es) (filter (is_onward from origin) es))
    (not_onward from origin e (All-head P e es h))
    ∙ none_onward from origin es (All-tail P e es h)

few_steps : (hops : ℕ) → hops ≤ 1 → nat_lt 1 hops ≡ false
few_steps hops few = grind (arith, nat_tests)

and_false : (t : Bool) → (t && false) ≡ false
and_false true = refl
and_false false = refl

ends_here : (hops from origin : ℕ) (es : List Edge) → IsWalkEnd hops from origin es
    → goes_on hops (filter (is_onward from origin) es) ≡ false
ends_here hops from origin es (inl few) =
    ap (λ t. t && nat_lt 0 (length (filter (is_onward from origin) es))) (few_steps hops few)
ends_here hops from origin es (inr all) =
    ap (λ (ys : List Edge). nat_lt 1 hops && nat_lt 0 (length ys)) (none_onward from origin es all)
    ∙ and_false (nat_lt 1 hops)

-- ---- the three

module _ (a : Store) (k : IsAlone a) (from : ℕ) where
  abbrev work : Work
  work = new_work 0 from

  abbrev Listed : Done → LinkTo → Type 0
  Listed d l = Lists d.store l.file l.peer l.birth

  -- where a store is that of the link
  by_link : (d : Done) (l : LinkTo) → is_held a l.file ≡ true
      → knows_later a l.file l.peer l.birth ≡ false → d.store ≡ link a l.file l.peer l.birth
      → Listed d l
  by_link d l held later is =
      subst (λ (z : Store). Lists z l.file l.peer l.birth) (sym is)
      (link_lists a k l.file l.peer l.birth held later)

  fetch_lists : (file : FileId) (birth : ℕ) (l : LinkTo)
      → l ≡ record { file = file; peer = from; birth = birth } → is_full a file ≡ true
      → knows_later a l.file l.peer l.birth ≡ false → Listed (fetch a file birth work) l
  fetch_lists file birth l e full =
      let done = fetch a file birth work in
      let P : LinkTo → Type 0 = λ z. knows_later a z.file z.peer z.birth ≡ false → Listed done z in
      subst P (sym e) (λ later. by_link done (record { file = file; peer = from; birth = birth })
      (full_held a.names file full) later
      (within (is_full a file) (knows_later a file from birth)
      (answered_fetch file birth (link_peer a file from birth work)) (idle a work)
      (idle a (reply a (message.NoGrant file birth) work)) full later))

  seek_lists : (file : FileId) (birth : ℕ) (l : LinkTo)
      → l ≡ record { file = file; peer = from; birth = birth } → is_held a file ≡ true
      → knows_later a l.file l.peer l.birth ≡ false → Listed (seek a file birth work) l
  seek_lists file birth l e held =
      let done = seek a file birth work in
      let P : LinkTo → Type 0 = λ z. knows_later a z.file z.peer z.birth ≡ false → Listed done z in
      subst P (sym e) (λ later. by_link done (record { file = file; peer = from; birth = birth })
      held later
      (within (is_held a file) (knows_later a file from birth)
      (answered_seek file birth (link_peer a file from birth work)) (idle a work)
      (idle a (reply a (message.NoneHere ask.Seek file file) work)) held later))

  -- along an edge to what is held
  held_there : (ends : Ends) → is_accepted a from manner.Needs ends ≡ true
      → is_held a ends.file ≡ true
  held_there ends accepted =
      let current = (and_parts (is_current a from ends) (meets a from manner.Needs ends) accepted).0 in
      let born = (and_parts (has_birth a ends.file ends.receiver)
      (not (knows_later a ends.file from ends.sender)) current).0 in
      sym (k.together ends.file) ∙ some_of (replica_at a ends.file) ends.receiver born

  apart : (x y : ℕ) → x ≢ y → (x == y) ≡ false
  apart x y differ = by (x == y) refl
    where
      by : (t : Bool) → (x == y) ≡ t → t ≡ false
      by true e = absurd (differ ((Decides-eqb x y).0 e))
      by false e = refl

  module _ (ends : Ends) (origin birth hops word : ℕ) where
    abbrev there : List Edge
    there = onward a ends.file from origin

    abbrev further : Done
    further = walked a ends origin birth hops word there work

    walk_lists : (l : LinkTo) → l ≡ record { file = ends.file; peer = origin; birth = birth }
        → is_accepted a from manner.Needs ends ≡ true → origin ≢ server_of a
        → IsWalkEnd hops from origin (replica_of a ends.file).edges
        → knows_later a l.file l.peer l.birth ≡ false
        → Listed (walk a ends origin birth hops word work) l
    walk_lists l e accepted away at_end =
        let done = walk a ends origin birth hops word work in
        let P : LinkTo → Type 0 = λ z. knows_later a z.file z.peer z.birth ≡ false → Listed done z in
        subst P (sym e) (λ later. by_link done
        (record { file = ends.file; peer = origin; birth = birth }) (held_there ends accepted) later
        (within (is_accepted a from manner.Needs ends) (origin == server_of a) further
        (idle a work) (accept a ends manner.Needs work) accepted (apart origin (server_of a) away)
        ∙ ap (λ t. (cond t (idle a (walk_on a ends.file origin birth hops word there work))
        (meet_origin a ends.file origin birth work)).store)
        (ends_here hops from origin (replica_of a ends.file).edges at_end)))

  -- ---- a message

  pub received_lists : (m : Message) (l : LinkTo) → IsTestedBy a from l m
      → knows_later a l.file l.peer l.birth ≡ false → Listed (receive a m work) l
  received_lists (message.Fetch file birth) l h later = fetch_lists file birth l h.0 h.1 later
  received_lists (message.Seek file birth) l h later = seek_lists file birth l h.0 h.1 later
  received_lists (message.Walk ends origin birth hops word) l h later =
      walk_lists ends origin birth hops word l h.0 h.1 h.2 h.3 later
  received_lists m l h later = absurd h
