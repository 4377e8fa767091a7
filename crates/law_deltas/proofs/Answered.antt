-- A Want that is accepted changes nothing, and nothing but its answer is sent.
use Rattle.std.proofs.Common.{ℕ, ◌≡◌, Bool, true, false, cond, not, List, [], ◌∷◌, ◌++◌, Option, None, Some, refl, sym, ap, ◌∙◌}
use Rattle.std.proofs.lemmas.Bool.{and_parts}
use Rattle.std.proofs.lemmas.Bool.Decides.{Decides-eqb}
use Rattle.std.proofs.lemmas.List.{append-nil}
use Rattle.pg_run.specs.pg_base.Version.{VersionValue}
use Rattle.pg_run.specs.pg_patch.Ranges.{RangesValue}
use Rattle.pg_run.specs.pg_content.Content.{head_at}
use Rattle.pg_run.specs.pg_delta.Whole.{delta_of}
use Rattle.pg_run.specs.pg_msg.declared.message.Ends.{Ends}
use Rattle.pg_run.specs.pg_msg.declared.message.Message.{Message}
use Rattle.pg_run.specs.pg_msg.declared.message.Message.TheVariants as message
use Rattle.pg_run.specs.pg_msg.declared.message.Packet.{Packet}
use Rattle.pg_run.specs.pg_msg.declared.message.Sent.{Sent}
use Rattle.pg_run.specs.pg_msg.declared.message.Wanted.{Wanted}
use Rattle.pg_run.specs.pg_msg.declared.work.Work.{Work}
use Rattle.pg_run.specs.pg_msg.Work.{new_work}
use Rattle.pg_run.specs.pg_names.Names.{is_dir}
use Rattle.pg_run.specs.Deltas.{change_or_bytes}
use Rattle.pg_run.specs.pg_store.declared.store.Store.{Store}
use Rattle.pg_run.specs.pg_store.Births.{has_birth}
use Rattle.pg_run.specs.pg_store.Links.{knows_later}
use Rattle.pg_run.specs.pg_store.Store.{content_of, replica_of}
use Rattle.pg_run.specs.pg_pieces.declared.accepting.EdgeUse.TheVariants as manner
use Rattle.pg_run.specs.pg_pieces.Accepting.{accept, is_accepted, is_current, meets, with_gone}
use Rattle.pg_run.specs.pg_pieces.Done.{Done, idle}
use Rattle.pg_run.specs.pg_pieces.Posting.{post, sent_to}
use Rattle.pg_run.specs.pg_cells.Sending.{cells_where, is_chosen}
use Rattle.pg_run.specs.pg_server.declared.input.Input.TheVariants as input
use Rattle.pg_run.specs.pg_server.Local.{Effect, closed, effect, finished, is_heard, receive}
use Rattle.pg_run.specs.pg_server.pg_transfer.Want.{answered, answered_along, given, given_as, want}
use Rattle.pg_run.proofs.Ticks.{IsTidy, bare_sends, closed_is}

-- ---- it is accepted

same_way : (t : Bool) (d : Done) → cond t d d ≡ d
same_way true d = refl
same_way false d = refl

needs_idle : (a : Store) (ends : Ends) (work : Work) → has_birth a ends.file ends.receiver ≡ true
    → accept a ends manner.Needs work ≡ idle a work
needs_idle a ends work here =
    let later = knows_later a ends.file work.from ends.sender in
    ap (λ t. cond t (cond later (idle a work) (idle a work))
    (idle a (with_gone a ends manner.Needs work))) here
    ∙ same_way later (idle a work)

accepted_here : (a : Store) (from : ℕ) (ends : Ends) → is_accepted a from manner.Needs ends ≡ true
    → has_birth a ends.file ends.receiver ≡ true
accepted_here a from ends accepted =
    (and_parts (has_birth a ends.file ends.receiver) (not (knows_later a ends.file from ends.sender))
    (and_parts (is_current a from ends) (meets a from manner.Needs ends) accepted).0).0

-- ---- its answer

module _ (a : Store) (from : ℕ) (ends : Ends) (wanted : Wanted) (v : VersionValue)
    (file : is_dir ends.file ≡ false) (accepted : is_accepted a from manner.Needs ends ≡ true)
    (offset : wanted.offset ≡ 0)
    (head : head_at (content_of a ends.file).heads wanted.stamp ≡ Some v) where
  abbrev work : Work
  work = new_work 0 from

  -- what is computed of the deltas that are kept
  abbrev pub Change : Option RangesValue
  Change =
      delta_of (replica_of a ends.file).kept wanted.heads v.head.stamp v.head.length

  abbrev pub Answer : Sent
  Answer = sent_to a from (change_or_bytes Change ends wanted v)

  abbrev Answered : Work
  Answered = post a from (change_or_bytes Change ends wanted v) work

  given_is : (o : Option RangesValue) → given_as o a ends v wanted.heads work
      ≡ post a from (change_or_bytes o ends wanted v) work
  given_is None = refl
  given_is (Some ranges) = refl

  answered_is : answered (head_at (replica_of a ends.file).content.heads wanted.stamp)
      (replica_of a ends.file) a ends wanted work ≡ Answered
  answered_is =
      ap (λ o. answered o (replica_of a ends.file) a ends wanted work) head
      ∙ ap (λ t. cond t (given_as Change a ends v wanted.heads work)
      (given a ends v wanted.offset work)) ((Decides-eqb wanted.offset 0).1 offset)
      ∙ given_is Change

  want_is : want a ends wanted work ≡ idle a Answered
  want_is =
      let linked = accept a ends manner.Needs work in
      ap (λ t. cond t (idle a work)
      (answered_along (is_accepted a from manner.Needs ends) ends wanted linked)) file
      ∙ ap (λ t. answered_along t ends wanted linked) accepted
      ∙ ap (λ (d : Done). answered_along true ends wanted d)
      (needs_idle a ends work (accepted_here a from ends accepted))
      ∙ ap (λ (u : Work). idle a u) answered_is

  -- ---- the event

  module _ (n s : ℕ) (k : IsTidy n s a) where
    none_sent : cells_where a (is_chosen [] []) ≡ []
    none_sent =
        let xs = cells_where a (is_chosen [] []) in
        sym (append-nil (xs ++ []) ∙ append-nil xs) ∙ bare_sends n s a k

    only_answer : (finished None (idle a Answered)).out.sent ≡ Answer ∷ []
    only_answer =
        let xs = cells_where a (is_chosen [] []) in
        append-nil ((Answer ∷ xs) ++ []) ∙ append-nil (Answer ∷ xs)
        ∙ ap (λ (ys : List Sent). Answer ∷ ys) none_sent

    module _ (packet : Packet) (heard : is_heard a packet ≡ true)
        (is : packet.message ≡ message.Want ends wanted) (sender : packet.from ≡ from) where
      abbrev End : Bool → Message → ℕ → Effect
      End t m g = cond t
          (closed None (cond t (receive a m (new_work 0 g)) (idle a (new_work 0 g))))
          (finished None (cond t (receive a m (new_work 0 g)) (idle a (new_work 0 g))))

      effect_is : effect a (input.Arrival packet) ≡ closed None (want a ends wanted work)
      effect_is = λ i. End (heard i) (is i) (sender i)

      -- NOTHING ELSE IS SENT
      pub only_answers : (effect a (input.Arrival packet)).out.sent ≡ Answer ∷ []
      only_answers =
          ap (λ (done : Effect). done.out.sent)
          (effect_is ∙ ap (closed None) want_is
          ∙ closed_is a k.order k.ordered k.golds k.still None Answered refl refl refl)
          ∙ only_answer
