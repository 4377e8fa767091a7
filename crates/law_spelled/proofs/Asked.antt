-- What a call comes to that is not here yet is asked for, of a server.
use Rattle.std.proofs.Common.{ℕ, ◌≡◌, ◌==◌, Option, None, Some, refl}
use Rattle.std.specs.Option.{option_or}
use Rattle.std.specs.Prelude.{unwrap_or}
use Rattle.pg_base.specs.declared.id.FileId.{FileId}
use Rattle.pg_entries.specs.declared.entry.Entry.{Entry}
use Rattle.pg_server.specs.pg_pieces.pg_intent.declared.intent.Intent.{Intent}
use Rattle.pg_server.specs.pg_pieces.pg_intent.declared.intent.Intent.TheVariants as intent
use Rattle.pg_server.specs.pg_pieces.pg_intent.declared.key.IntentKey.TheVariants as intent_key
use Rattle.pg_msg.specs.declared.message.Message.TheVariants as message
use Rattle.pg_msg.specs.declared.work.Work.{Work}
use Rattle.pg_server.specs.pg_pieces.pg_names.Names.{cell_at}
use Rattle.pg_server.specs.pg_checks.pg_lookup.declared.paths.Found.{Found}
use Rattle.pg_server.specs.pg_pieces.pg_store.declared.store.Store.{Store}
use Rattle.pg_server.specs.pg_pieces.pg_store.declared.wishes.Wish.{Wish}
use Rattle.pg_server.specs.pg_pieces.pg_store.Births.{fill_at, wish_at, with_birth, with_wish}
use Rattle.pg_server.specs.pg_pieces.pg_store.Seen.{removed_of, server_of}
use Rattle.pg_server.specs.pg_pieces.pg_store.Servers.{next_target}
use Rattle.pg_server.specs.pg_pieces.pg_store.Wishes.{put_wish}
use Rattle.pg_server.proofs.pg_pieces.pg_house.Truths.{chosen}
use Rattle.pg_server.specs.pg_checks.Asking.{ask_by, ask_first, ask_for, cell_in, dir_by, fetch, fresh_wish, gold_of, holder, standing, wish_by}
use Rattle.pg_server.specs.pg_pieces.Done.{idle}
use Rattle.pg_server.specs.pg_pieces.Posting.{post}
use Rattle.law_spelled.specs.Stores.{FitsIntent, FitsStore, MayBeServer}
use Rattle.law_spelled.proofs.Intents.{found_fits}
use Rattle.law_spelled.proofs.Notes.{IsWishToServer, wish_found, wish_put}
use Rattle.law_spelled.proofs.Places.{cell_fits}
use Rattle.law_spelled.proofs.Servers.{gold_or, next_may}
use Rattle.law_spelled.proofs.Stores.{FitsDone, Fine, born, posted, wished}

-- ---- who is asked

holder_by : (s : Store) (f : FileId) (d : Option FileId) (next : ℕ) → FitsStore s → MayBeServer next
    → MayBeServer (unwrap_or (gold_of s.names (cell_in s.names f d)) next)
holder_by s f None next h k = k
holder_by s f (Some d) next h k = by (cell_at s.names d f) refl
  where
    by : (o : Option Entry) → cell_at s.names d f ≡ o → MayBeServer (unwrap_or (gold_of s.names o) next)
    by None e = k
    by (Some c) e = gold_or (server_of s) (removed_of s) c next (cell_fits s.names h.names d f c e).flags.each k

holder_may : (s : Store) (found : Found) → FitsStore s → MayBeServer (holder s found)
holder_may s found h =
    holder_by s found.file (dir_by s.names found.file found.way) (next_target s (server_of s)) h (next_may s h (server_of s))

-- ---- as a wish that stands asks

-- there is none, or it asks a server
abbrev MayBeWish : Option Wish → Type 0
MayBeWish None = Unit {0}
MayBeWish (Some w) = IsWishToServer w

fill_may : (o : Option Intent) → ((i : Intent) → o ≡ Some i → FitsIntent i) → MayBeWish (wish_by o)
fill_may None k = tt
fill_may (Some (intent.Bye file birth peer peer_birth)) k = tt
fill_may (Some (intent.Seek file target)) k = tt
fill_may (Some (intent.Fill file birth target)) k = (k (intent.Fill file birth target) refl).target
fill_may (Some (intent.Patch dir entry target)) k = tt
fill_may (Some (intent.Confirm dir child target)) k = tt
fill_may (Some (intent.Leave file peer peer_birth)) k = tt

wish_may : (s : Store) (f : FileId) (o : Option Wish) → FitsStore s → wish_at s f ≡ o → MayBeWish o
wish_may s f None h e = tt
wish_may s f (Some w) h e = wish_found s.wishes f w h.wishes e

or_may : (a b : Option Wish) → MayBeWish a → MayBeWish b → MayBeWish (option_or a b)
or_may None b h k = k
or_may (Some w) b h k = h

standing_may : (s : Store) (f : FileId) → FitsStore s → MayBeWish (standing s f)
standing_may s f h =
    or_may (wish_by (fill_at s f)) (wish_at s f)
    (fill_may (fill_at s f) (λ i e. found_fits s.intents (intent_key.Fill f) i h.intents e)) (wish_may s f (wish_at s f) h refl)

-- ---- a fetch

fetched : (s : Store) (f : FileId) (wish : Wish) (work : Work) → IsWishToServer wish → Fine work → Fine (fetch s f wish work)
fetched s f wish work k h =
    chosen Fine (wish.target == 0) work (post s wish.target (message.Fetch f wish.birth) work) h
    (posted s wish.target (message.Fetch f wish.birth) work k (λ w. tt) h)

first_fits : (s : Store) (f : FileId) (target : ℕ) (work : Work) → MayBeServer target → FitsDone (idle s work) → FitsDone (ask_first s f target work)
first_fits s f target work k h =
    let wish = fresh_wish s target in
    let b = with_birth s in
    chosen FitsDone (target == 0) (idle s work) (idle (with_wish b f wish) (fetch s f wish work)) h
    (record {
      store = wished b (born s h.store) (put_wish s.wishes f wish) (wish_put s.wishes f wish k h.store.wishes);
      work = fetched s f wish work k h.work;
    })

asked_by : (s : Store) (found : Found) (o : Option Wish) (work : Work) → MayBeWish o → FitsDone (idle s work) → FitsDone (ask_by s found o work)
asked_by s found None work k h = first_fits s found.file (holder s found) work (holder_may s found h.store) h
asked_by s found (Some wish) work k h = record { store = h.store; work = fetched s found.file wish work k h.work }

pub asked_for : (s : Store) (found : Found) (work : Work) → FitsDone (idle s work) → FitsDone (ask_for s found work)
asked_for s found work h = asked_by s found (standing s found.file) work (standing_may s found.file h.store) h
