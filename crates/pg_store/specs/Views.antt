-- A server enters the next view: one server more is removed.
use Rattle.std.specs.Prelude.{ℕ, ◌≡◌, ◌==◌, ◌⊎◌, false, List, [], ◌∷◌, Option, None, Some}
use Rattle.std.specs.Map.{keys_of}
use Rattle.std.specs.Option.{option_map}
use Rattle.pg_base.specs.declared.id.FileId.{FileId}
use Rattle.pg_edges.specs.Edges.{edge_to, without_edge}
use Rattle.pg_intent.specs.Intents.{keys_to, turned_each}
use Rattle.pg_names.specs.Names.{remove_server}
use Rattle.pg_replica.specs.declared.replica.Replica.{Replica}
use Rattle.pg_store.specs.declared.store.Store.{Store}
use Rattle.pg_store.specs.declared.wishes.Wish.{Wish}
use Rattle.pg_store.specs.Births.{wish_at}
use Rattle.pg_store.specs.Links.{unlink}
use Rattle.pg_store.specs.Servers.{next_target}
use Rattle.pg_store.specs.Together.{AreBirths, AreTogether, BirthsMove}
use Rattle.pg_store.specs.Store.{replica_at, replica_of}
use Rattle.pg_store.specs.Wishes.{aim_each, wished_of}

-- ---- its edges go

-- the birth of the peer that the replica of a thing has an edge to, if it has one
abbrev pub listed_birth : Store → FileId → ℕ → Option ℕ
listed_birth store file peer =
    option_map (λ e. e.birth) (edge_to (replica_of store file).edges peer)

abbrev pub cut_born : ℕ → Store → FileId → Option ℕ → Store
cut_born server store file None = store
cut_born server store file (Some birth) = unlink store file server birth

-- the edge of a thing to a server, if there is one, goes
abbrev pub cut : ℕ → Store → FileId → Store
cut server store file = cut_born server store file (listed_birth store file server)

-- those of these things, one behind another
abbrev pub cut_each : ℕ → Store → List FileId → Store
cut_each server store [] = store
cut_each server store (file ∷ files) = cut_each server (cut server store file) files

-- the replica of a thing without its edge to a server
abbrev pub without_peer : ℕ → Replica → Replica
without_peer server x = record x { edges = without_edge x.edges server }

-- ---- who asked it asks another one

abbrev pub turn : ℕ → ℕ → Store → Store
turn server to store = record store {
  intents = turned_each store.intents (keys_to server store.intents) to;
  wishes = aim_each store.wishes (wished_of server store.wishes) to;
}

-- ---- the view

abbrev pub with_removed : Store → ℕ → Store
with_removed store server =
    record store { names = remove_server store.names server; announced = [] }

-- the server is removed in this view: no version is noted, no edge leads to the server, what was
-- for it alone has ended, and whoever asked it asks the next one
abbrev pub enter : Store → ℕ → Store
enter store server =
    let b = cut_each server (with_removed store server) (keys_of store.names.held) in
    turn server (next_target b server) b

-- ---- what a server holds behind it

-- each thing that is held stays so, and its edge to the server alone goes
abbrev pub EdgesAreCut : Type 0
EdgesAreCut = (a : Store) (server : ℕ) (file : FileId) → AreTogether a
    → replica_at (enter a server) file ≡ option_map (without_peer server) (replica_at a file)

-- of what it knows of names only the removals change
abbrev pub NamesStay : Type 0
NamesStay = (a : Store) (server : ℕ) → (enter a server).names ≡ remove_server a.names server

abbrev pub EnteringIsTogether : Type 0
EnteringIsTogether = (a : Store) (server : ℕ) → AreTogether a → AreTogether (enter a server)

abbrev pub EnteringKeepsBirths : Type 0
EnteringKeepsBirths = (a : Store) (server : ℕ) → AreBirths a → AreBirths (enter a server)

abbrev pub EnteringMoves : Type 0
EnteringMoves = (a : Store) (server : ℕ) → BirthsMove a (enter a server)

-- a wish that asked the server asks the next one, and the others stay
abbrev pub WishesAreAimed : Type 0
WishesAreAimed = (a : Store) (server : ℕ) (file : FileId) (wish : Wish)
    → wish_at (enter a server) file ≡ Some wish
    → (was : Wish) × (wish_at a file ≡ Some was) × (was.birth ≡ wish.birth)
    × ((wish.target ≡ next_target (enter a server) server)
    ⊎ ((wish ≡ was) × ((was.target == server) ≡ false)))
