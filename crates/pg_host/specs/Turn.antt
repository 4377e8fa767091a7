-- What one packet leads to.
use Rattle.std.specs.Prelude.{ℕ, ◌≡◌, List, [], ◌∷◌, ◌++◌, length, Bool, Some, None, Ok}
use Rattle.std.specs.declared.option.Option.{Option}
use Rattle.pg_codec.specs.Laws.{AreBytes}
use Rattle.pg_disk.specs.Synced.{KeepsOthers}
use Rattle.pg_log.specs.Log.{Stands}
use Rattle.pg_net.specs.Clock.{AreNoted}
use Rattle.pg_net.specs.Clock.{Told as ClockTold}
use Rattle.pg_packet_read.specs.Whole.{packet_of}
use Rattle.pg_packet_write.specs.DatagramValue.{DatagramValue}
use Rattle.pg_host.specs.declared.asking.Asked.{Asked}
use Rattle.pg_host.specs.Entries.{entries_for}
use Rattle.pg_host.specs.Inputs.{StopsAs, asked_by, moments_by, words_by}
use Rattle.pg_host.specs.Sends.{SentFirst, after_all, sends, with_all}
use Rattle.pg_host.specs.Host.{AreRead, IsKept, LeavesSome, Scene, inputs_in, stops}

-- bytes came that are this packet
abbrev pub HasCome : DatagramValue → Type 0
HasCome d = (bytes : List ℕ) × AreBytes bytes × (packet_of bytes ≡ Ok d)

-- the input of a packet from this port, with these moments and words
abbrev pub one_asked : ℕ → DatagramValue → List ℕ → List ℕ → List Asked
one_asked port d moments words =
    asked_by port d d.content (λ more_moments more_words. []) moments words

abbrev pub asked_list : Option Asked → List Asked
asked_list None = []
asked_list (Some asked) = asked ∷ []

-- the moments and words of the packet's input, as the clock gave them, and no more
pub record Asks (ct : Type 0) (from : ℕ) (d : DatagramValue) (found : Option Asked)
    (c0 c1 : ClockTold) : Type 0 where
  pub moments : List ℕ
  pub words : List ℕ
  pub moment : length moments ≡ moments_by d.content
  pub word : length words ≡ words_by d.content
  pub noted_moments : ct → AreNoted c0.moments c1.moments moments
  pub noted_words : ct → AreNoted c0.words c1.words words
  pub is : one_asked from d moments words ≡ asked_list found

-- the packet's input was taken whole
pub record Works (nt ct dt : Type 0) (port from : ℕ) (d : DatagramValue) (came : Option Bool)
    (a b : Scene) : Type 0 where
  pub moments : List ℕ
  pub words : List ℕ
  pub moment : length moments ≡ moments_by d.content
  pub word : length words ≡ words_by d.content
  pub stops : StopsAs (stops came) (one_asked from d moments words)
  pub number : length (one_asked from d moments words) ≡ inputs_in came
  pub read : AreRead (one_asked from d moments words)
  pub noted_moments : ct → AreNoted a.clock.moments b.clock.moments moments
  pub noted_words : ct → AreNoted a.clock.words b.clock.words words
  pub sent : nt → b.net ≡ with_all a.net (sends port a.store (one_asked from d moments words))
  pub store : b.store ≡ after_all a.store (one_asked from d moments words)
  pub others : dt → KeepsOthers 0 a.disk b.disk
  pub stands : dt → (entries : List (List ℕ)) → Stands a.log a.disk entries
      → Stands b.log b.disk (entries ++ entries_for (one_asked from d moments words))
  pub leaves : dt → (entries : List (List ℕ)) → Stands a.log a.disk entries
      → LeavesSome entries (one_asked from d moments words) a.disk b.disk

-- it was taken, and of what goes out behind it the first was sent
pub record Halts (nt ct dt : Type 0) (port from : ℕ) (d : DatagramValue) (a b : Scene)
    : Type 0 where
  pub moments : List ℕ
  pub words : List ℕ
  pub moment : length moments ≡ moments_by d.content
  pub word : length words ≡ words_by d.content
  pub stops : (stop : Bool) × StopsAs stop (one_asked from d moments words)
  pub read : AreRead (one_asked from d moments words)
  pub noted_moments : ct → AreNoted a.clock.moments b.clock.moments moments
  pub noted_words : ct → AreNoted a.clock.words b.clock.words words
  pub sent : nt → SentFirst a.net b.net (sends port a.store (one_asked from d moments words))
  pub others : dt → KeepsOthers 0 a.disk b.disk
  pub leaves : dt → (entries : List (List ℕ)) → Stands a.log a.disk entries
      → LeavesSome entries (one_asked from d moments words) a.disk b.disk
  pub kept : nt → dt → (entries : List (List ℕ)) → Stands a.log a.disk entries
      → IsKept port entries (one_asked from d moments words) a b
