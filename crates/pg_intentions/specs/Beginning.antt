-- Intentions begin and end, behind the house rules of an event.
use Rattle.std.specs.Prelude.{Bool, true, if◌then◌else◌, List, [], ◌∷◌, filter}
use Rattle.pg_base.specs.declared.id.FileId.{FileId}
use Rattle.pg_graph.specs.pg_intent.declared.intent.Intent.{Intent}
use Rattle.pg_graph.specs.pg_intent.declared.intent.Intent.TheVariants as intent
use Rattle.pg_graph.specs.pg_intent.declared.key.IntentKey.{IntentKey}
use Rattle.pg_graph.specs.pg_intent.Intent.{key_of}
use Rattle.pg_graph.specs.pg_msg.declared.work.Work.{Work}
use Rattle.pg_graph.specs.pg_replica.Index.{Files}
use Rattle.pg_graph.specs.pg_store.declared.store.Store.{Store}
use Rattle.pg_graph.specs.pg_store.Beginning.{with_intents}
use Rattle.pg_graph.specs.pg_pieces.Done.{Done}
use Rattle.pg_intentions.specs.Confirms.{begin_confirms, is_doubtful}
use Rattle.pg_intentions.specs.Fills.{begin_fills, files_to_fill, is_in, to_fill}
use Rattle.pg_intentions.specs.Patches.{begin_patches}
use Rattle.pg_graph.specs.Leaving.{may_still_leave}
use Rattle.pg_intentions.specs.Seeks.{begin_seeks, is_seeking, to_seek}

-- the condition of an intention holds, if it has one: a Seek is of what seeks, a Fill of what is to
-- be filled, a Confirm of a child that is listed and not held, a Leave to a peer that is listed
-- with the birth and whose flag of that birth is raised. The others end by answers
abbrev pub still_stands : Store → Files → Intent → Bool
still_stands store files (intent.Bye file birth peer peer_birth) = true
still_stands store files (intent.Seek file target) = is_seeking store file
still_stands store files (intent.Fill file birth target) = is_in files file
still_stands store files (intent.Patch dir entry target) = true
still_stands store files (intent.Confirm dir child target) = is_doubtful store dir child
still_stands store files (intent.Leave file peer peer_birth) =
    may_still_leave store file peer peer_birth

abbrev pub ended_key : Bool → Intent → List IntentKey
ended_key stays i = if stays then [] else key_of i ∷ []

-- the key of an intention, where its condition does not hold
abbrev pub ended_key_of : Store → Files → Intent → List IntentKey
ended_key_of store files i = ended_key (still_stands store files i) i

-- those end whose condition does not hold
abbrev pub end_others : Store → Files → Store
end_others store files =
    with_intents store (filter (still_stands store files) store.intents)

abbrev pub fills_after : List FileId → Done → Done
fills_after files done = begin_fills done.store files done.work

abbrev pub seeks_after : List FileId → Done → Done
seeks_after files done = begin_seeks done.store files done.work

abbrev pub confirms_after : Done → Done
confirms_after done = begin_confirms done.store done.work

-- first some end. Then Patches begin by directory and child, Fills by id, Seeks by id, Confirms by
-- directory and child, each decided by what is held, which none of this changes
abbrev pub begin_end : Store → Work → Done
begin_end store work = confirms_after (seeks_after (to_seek store)
    (fills_after (to_fill store.names)
    (begin_patches (end_others store (files_to_fill store.names)) work)))
