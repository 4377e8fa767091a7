-- A harbinger comes.
use Rattle.std.specs.Prelude.{ℕ, Bool, if◌then◌else◌, Option, None, Some}
use Rattle.pg_base.specs.declared.head.Head.{Head}
use Rattle.pg_base.specs.Version.{actor_of}
use Rattle.pg_content.specs.Content.{is_covered}
use Rattle.pg_announced.specs.declared.announced.Announced.{Announced}
use Rattle.pg_announced.specs.Announced.{aimed, change_note, is_awaited, key_at, new_note, put_note}
use Rattle.pg_pieces.specs.pg_msg.declared.message.Ends.{Ends}
use Rattle.pg_pieces.specs.pg_msg.declared.work.Work.{Work}
use Rattle.pg_pieces.specs.pg_names.Names.{is_dir}
use Rattle.pg_pieces.specs.pg_store.declared.store.Store.{Store}
use Rattle.pg_pieces.specs.pg_store.Store.{content_of}
use Rattle.pg_pieces.specs.declared.accepting.EdgeUse.TheVariants as manner
use Rattle.pg_pieces.specs.Accepting.{accept, is_accepted}
use Rattle.pg_pieces.specs.Done.{Done, idle}
use Rattle.pg_transfer.specs.Asking.{acknowledged, ask, listed, noted, offset_of, put_off, told_others, with_notes}

-- the first that is heard of a version: it is noted, the sender is asked for all of its body, and
-- all other peers hear of it
abbrev pub first_heard : Store → Ends → ℕ → Head → Work → Done
first_heard store ends tag head work = record {
  store = with_notes store
      (put_note store.announced (key_at ends.file head.stamp) (new_note head work.from tag));
  work = told_others store ends.file work.from head
      (ask store ends head.stamp 0 (listed store ends.file) work);
}

-- it is noted already: the sender is asked from now on, for its body from this byte on
abbrev pub asked_again : Store → Ends → ℕ → Head → ℕ → Work → Done
asked_again store ends tag head offset work = record {
  store = with_notes store
      (change_note (aimed work.from tag) store.announced (key_at ends.file head.stamp));
  work = ask store ends head.stamp offset (listed store ends.file) work;
}

-- where nobody else is asked for it: noted already, for the bytes that are not here
abbrev pub heard_beside : Option Announced → Store → Ends → ℕ → Head → Work → Done
heard_beside None store ends tag head work = first_heard store ends tag head work
heard_beside (Some n) store ends tag head work =
    asked_again store ends tag head (offset_of n.bytes) work

-- a version that is covered is acknowledged. Where somebody else is asked for it, or for one that
-- covers it, the sender is put off
abbrev pub heard : Store → Ends → ℕ → Head → Work → Done
heard store ends tag head work =
    if is_covered (content_of store ends.file).heads (actor_of head) head.number
    then idle store (acknowledged store ends head.stamp tag work)
    else (if is_awaited store.announced ends.file work.from head
    then idle store (put_off store ends head.stamp work)
    else heard_beside (noted store ends.file head.stamp) store ends tag head work)

-- where the message is accepted
abbrev pub heard_along : Bool → Ends → ℕ → Head → Done → Done
heard_along accepted ends tag head done =
    if accepted then heard done.store ends tag head done.work else done

-- it links its sender. Of a directory there is no version
abbrev pub harbinger : Store → Ends → ℕ → Head → Work → Done
harbinger store ends tag head work =
    if is_dir ends.file then idle store work
    else heard_along (is_accepted store work.from manner.Makes ends) ends tag head
    (accept store ends manner.Makes work)
