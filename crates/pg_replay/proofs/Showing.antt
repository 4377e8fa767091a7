-- What the servers show, one behind the other.
use Rattle.std.proofs.Common.{ℕ, if◌then◌else◌, ◌≡◌, ◌+◌, ◌++◌, ◌∙◌, ◌||◌, Bool, List, [], ◌∷◌, Option, Some, ap, ap₂, subst, sym, refl, suc}
use Rattle.pg_base.specs.declared.id.FileId.{FileId}
use Rattle.pg_base.specs.declared.id.Kind.{Kind}
use Rattle.pg_base.specs.declared.id.Kind.TheVariants.{Dir, File}
use Rattle.pg_content.specs.Content.{shown_bytes}
use Rattle.pg_names.specs.Names.{InodeValue, known}
use Rattle.pg_run.specs.Quiet.{has_some}
use Rattle.pg_run.specs.Run.{World, is_live}
use Rattle.pg_store.specs.declared.store.Store.{Store}
use Rattle.pg_store.specs.Store.{content_of}
use Rattle.pg_trace.specs.JournalLine.{ArePrinted, IsPrinted}
use Rattle.pg_trace.specs.Suited.{SuitsContents, SuitsReplica}
use Rattle.pg_trace.specs.declared.replica.ShownReplica.{ShownReplica}
use Rattle.pg_trace.specs.declared.journal_line.JournalLine.{JournalLine}
use Rattle.pg_trace.specs.declared.journal_line.JournalLine.TheVariants as printed
use Rattle.pg_world.specs.Played.{final}
use Rattle.pg_replay.specs.declared.journal.Replay.{Replay}
use Rattle.pg_replay.specs.Going.{Reaches}
use Rattle.pg_trace.proofs.Lines.{few_taken}
use Rattle.pg_replay.specs.Shown.{HoldsSuited, contents_at, held_lines, lines_of, shown_of}
use Rattle.pg_replay.specs.Text.{shown_at, shows_lines}
use Rattle.pg_replay.proofs.Gone.{add_one, then_reaches, there}

-- what a server shows that is live, or not
pub is_shown : (n : ℕ) (w : World) (id : FileId) (server : ℕ) (live : Bool) → live ≡ is_live n w server
    → (if live then held_lines server (w.stores server) id else []) ≡ shown_at n w id server
is_shown n w id server live = ap (λ b. if b then held_lines server (w.stores server) id else [])

-- what a server shows where nothing happened since
still_shown : (a b : Replay) (id : FileId) (server : ℕ) (t : List JournalLine) → Reaches a b [] t
    → shown_at b.world.servers (final b.world) id server ≡ shown_at a.world.servers (final a.world) id server
still_shown a b id server t x = there (λ s v. shown_at s v id server) a b [] t x

-- one server more
pub one_shown : (a b c : Replay) (id : FileId) (k : ℕ)
    → Reaches a b [] (shows_lines a.world.servers (final a.world) id k)
    → Reaches b c [] (shown_at b.world.servers (final b.world) id (k + 1))
    → Reaches a c [] (shows_lines a.world.servers (final a.world) id (k + 1))
one_shown a b c id k x y =
    let n = a.world.servers in
    let w = final a.world in
    let so_far = shows_lines n w id k in
    let P : List JournalLine → Type 0 = (λ t. Reaches b c [] t) in
    let Q : ℕ → Type 0 = (λ j. Reaches b c [] (shown_at n w id j) → Reaches a c [] (shows_lines n w id j)) in
    subst Q (add_one k) (λ z. then_reaches a b c [] [] so_far (shown_at n w id (suc k)) x z)
    (subst P (still_shown a b id (k + 1) so_far x) y)

-- whether there is a line
some_of : (xs ys : List JournalLine) → (has_some xs || has_some ys) ≡ has_some (xs ++ ys)
some_of [] ys = refl
some_of (x ∷ xs) ys = refl

pub any_more : (a b : Replay) (id : FileId) (k : ℕ) (any more : Bool) (t : List JournalLine) → Reaches a b [] t
    → any ≡ has_some (shows_lines a.world.servers (final a.world) id k)
    → more ≡ has_some (shown_at b.world.servers (final b.world) id (k + 1))
    → (any || more) ≡ has_some (shows_lines a.world.servers (final a.world) id (k + 1))
any_more a b id k any more t x so_far is =
    let n = a.world.servers in
    let w = final a.world in
    let before = shows_lines n w id k in
    let P : ℕ → Type 0 = (λ j. (has_some before || has_some (shown_at n w id j)) ≡ has_some (shows_lines n w id j)) in
    ap₂ (λ p q. p || q) so_far (is ∙ ap has_some (still_shown a b id (k + 1) t x))
    ∙ subst P (add_one k) (some_of before (shown_at n w id (suc k)))

-- ---- one replica

few_contents : (store : Store) (id : FileId) (k : Kind) (x : InodeValue) → SuitsContents k (contents_at store id k x)
few_contents store id Dir x = tt
few_contents store id File x = few_taken 16 (shown_bytes (content_of store id))

-- what a server shows is a line of a journal, where the place suits
pub held_printed : (server : ℕ) (store : Store) (id : FileId) (x : InodeValue) (r : ShownReplica) → Some x ≡ known store.names id
    → r ≡ shown_of server store id x → (SuitsReplica r → IsPrinted (printed.Replica r)) → HoldsSuited store id
    → ArePrinted (held_lines server store id)
held_printed server store id x r held_is is fits suited =
    let P : Option InodeValue → Type 0 = (λ o. ArePrinted (lines_of server store id o)) in
    let Q : ShownReplica → Type 0 = (λ s. SuitsReplica s → IsPrinted (printed.Replica s)) in
    subst P held_is (subst Q is fits (record { stands = suited x (sym held_is); shows = few_contents store id id.kind x }), tt)
