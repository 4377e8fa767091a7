-- The inputs of takes, one behind another, and what goes out behind them.
use Rattle.std.proofs.Common.{◌≡◌, ◌⊎◌, inl, inr, ℕ, ◌+◌, Bool, true, false, ◌||◌, List, [], ◌∷◌, ◌++◌, length, take, Option, Some, None, Result, Ok, Err, refl, sym, ◌∙◌, ap, arith, append_assoc, length-append}
use Rattle.std.proofs.Math.Seq.{take-append-add}
use Rattle.pg_net.specs.Net.{Datagram}
use Rattle.pg_packet_fields.specs.declared.error.PacketError.{PacketError}
use Rattle.pg_packet_read.specs.Whole.{packet_of}
use Rattle.pg_packet_write.specs.DatagramValue.{DatagramValue}
use Rattle.pg_packet_write.specs.declared.datagram.Content.{Content}
use Rattle.pg_packet_write.specs.declared.datagram.Content.TheVariants as content
use Rattle.pg_packet_write.specs.declared.datagram.Request.TheVariants as request
use Rattle.pg_server.specs.Local.{effect_of}
use Rattle.pg_store.specs.declared.store.Store.{Store}
use Rattle.pg_host.specs.declared.asking.Asked.{Asked}
use Rattle.pg_host.specs.Inputs.{AreEnough, AreNearlyEnough, EndsByStop, LacksLast, StopsAs, arrived, asked, asked_at, asked_by, called, has_stop, is_stop, moments_at, moments_by, moments_for, ticked, words_at, words_by, words_for}
use Rattle.pg_host.specs.Sends.{after_all, packets, sends}

module _ (first all : List ℕ → List ℕ → List Asked) (rest : List Asked) (m n : ℕ) (later laters : List ℕ)
    (more : (ms ws : List ℕ) → length ms ≡ m → length ws ≡ n → all (ms ++ later) (ws ++ laters) ≡ first ms ws ++ rest) where
  by_more : (port : ℕ) (d : DatagramValue) (c : Content) (ms ws : List ℕ) → length ms ≡ moments_by c + m → length ws ≡ words_by c + n
      → asked_by port d c all (ms ++ later) (ws ++ laters) ≡ asked_by port d c first ms ws ++ rest
  by_more port d (content.Message message) ms ws e f = ap (λ (l : List Asked). arrived d message ∷ l) (more ms ws (omega (arith, e)) (omega (arith, f)))
  by_more port d (content.Call number (request.Call call)) [] ws e f = absurd (omega (arith, e))
  by_more port d (content.Call number (request.Call call)) (moment ∷ ms) ws e f =
      ap (λ (l : List Asked). called port number moment call ∷ l) (more ms ws (omega (arith, e)) (omega (arith, f)))
  by_more port d (content.Call number request.Tick) [] ws e f = absurd (omega (arith, e))
  by_more port d (content.Call number request.Tick) (moment ∷ ms) [] e f = absurd (omega (arith, f))
  by_more port d (content.Call number request.Tick) (moment ∷ ms) (word ∷ ws) e f =
      ap (λ (l : List Asked). ticked port number moment word ∷ l) (more ms ws (omega (arith, e)) (omega (arith, f)))
  by_more port d (content.Reply number reply) ms ws e f = more ms ws (omega (arith, e)) (omega (arith, f))

  at_more : (port : ℕ) (r : Result DatagramValue PacketError) (ms ws : List ℕ) → length ms ≡ moments_at r + m → length ws ≡ words_at r + n
      → asked_at port r all (ms ++ later) (ws ++ laters) ≡ asked_at port r first ms ws ++ rest
  at_more port (Ok d) ms ws e f = by_more port d d.content ms ws e f
  at_more port (Err fault) ms ws e f = more ms ws (omega (arith, e)) (omega (arith, f))

append_at : (g h : List (Option Datagram)) (later laters ms ws : List ℕ) → length ms ≡ moments_for g → length ws ≡ words_for g
    → asked (g ++ h) (ms ++ later) (ws ++ laters) ≡ asked g ms ws ++ asked h later laters
append_at [] h later laters [] [] e f = refl
append_at [] h later laters [] (w ∷ ws) e f = absurd (omega (arith, f))
append_at [] h later laters (m ∷ ms) ws e f = absurd (omega (arith, e))
append_at (None ∷ g) h later laters ms ws e f = append_at g h later laters ms ws e f
append_at (Some p ∷ g) h later laters ms ws e f =
    at_more (asked g) (asked (g ++ h)) (asked h later laters) (moments_for g) (words_for g) later laters (λ ns vs d b. append_at g h later laters ns vs d b)
    p.port (packet_of p.bytes) ms ws e f

pub asked-append : (g h : List (Option Datagram)) (ms ws later laters : List ℕ) → AreEnough g ms ws
    → asked (g ++ h) (ms ++ later) (ws ++ laters) ≡ asked g ms ws ++ asked h later laters
asked-append g h ms ws later laters enough = append_at g h later laters ms ws enough.each_moment enough.each_word

-- ---- moments and words

moments-append : (g h : List (Option Datagram)) → moments_for (g ++ h) ≡ moments_for g + moments_for h
moments-append [] h = omega arith
moments-append (None ∷ g) h = moments-append g h
moments-append (Some p ∷ g) h = let more = moments-append g h in omega (arith, more)

words-append : (g h : List (Option Datagram)) → words_for (g ++ h) ≡ words_for g + words_for h
words-append [] h = omega arith
words-append (None ∷ g) h = words-append g h
words-append (Some p ∷ g) h = let more = words-append g h in omega (arith, more)

pub enough-append : (g h : List (Option Datagram)) (ms ws ns vs : List ℕ) → AreEnough g ms ws → AreEnough h ns vs → AreEnough (g ++ h) (ms ++ ns) (ws ++ vs)
enough-append g h ms ws ns vs one more = record {
  each_moment = omega (arith, length-append ms ns, moments-append g h, one.each_moment, more.each_moment);
  each_word = omega (arith, length-append ws vs, words-append g h, one.each_word, more.each_word);
}

pub nearly-append : (g h : List (Option Datagram)) (ms ws ns vs : List ℕ) → AreEnough g ms ws → AreNearlyEnough h ns vs → AreNearlyEnough (g ++ h) (ms ++ ns) (ws ++ vs)
nearly-append g h ms ws ns vs one (inl more) = inl (enough-append g h ms ws ns vs one more)
nearly-append g h ms ws ns vs one (inr lacks) = inr (record {
  before = g ++ lacks.before;
  last = lacks.last;
  whole = ap (λ (l : List (Option Datagram)). g ++ l) lacks.whole ∙ sym (append_assoc g lacks.before (Some lacks.last ∷ []));
  enough = enough-append g lacks.before ms ws ns vs one lacks.enough;
})

-- ---- `stop`

or_more : (x y z : Bool) → ((x || y) || z) ≡ (x || (y || z))
or_more true y z = refl
or_more false y z = refl

stop-append : (xs ys : List Asked) → has_stop (xs ++ ys) ≡ (has_stop xs || has_stop ys)
stop-append [] ys = refl
stop-append (x ∷ xs) ys = ap (λ (t : Bool). is_stop x.input || t) (stop-append xs ys) ∙ sym (or_more (is_stop x.input) (has_stop xs) (has_stop ys))

none-append : (xs ys : List Asked) → has_stop xs ≡ false → has_stop ys ≡ false → has_stop (xs ++ ys) ≡ false
none-append xs ys one more = stop-append xs ys ∙ ap (λ (t : Bool). t || has_stop ys) one ∙ more

pub stops-append : (stop : Bool) (xs ys : List Asked) → has_stop xs ≡ false → StopsAs stop ys → StopsAs stop (xs ++ ys)
stops-append false xs ys none stops = none-append xs ys none stops
stops-append true xs ys none ends = record {
  before = xs ++ ends.before;
  last = ends.last;
  whole = ap (λ (l : List Asked). xs ++ l) ends.whole ∙ sym (append_assoc xs ends.before (ends.last ∷ []));
  none = none-append xs ends.before none ends.none;
  is = ends.is;
}

-- ---- what goes out

pub after_all-append : (s : Store) (xs ys : List Asked) → after_all s (xs ++ ys) ≡ after_all (after_all s xs) ys
after_all-append s [] ys = refl
after_all-append s (x ∷ xs) ys = after_all-append (effect_of s x.input).store xs ys

pub sends-append : (port : ℕ) (s : Store) (xs ys : List Asked) → sends port s (xs ++ ys) ≡ sends port s xs ++ sends port (after_all s xs) ys
sends-append port s [] ys = refl
sends-append port s (x ∷ xs) ys =
    ap (λ (l : List Datagram). packets port x.back (effect_of s x.input) ++ l) (sends-append port (effect_of s x.input).store xs ys)
    ∙ sym (append_assoc (packets port x.back (effect_of s x.input)) (sends port (effect_of s x.input).store xs) (sends port (after_all (effect_of s x.input).store xs) ys))

-- what was sent, and then the first of what comes behind
pub sent_on : (port : ℕ) (s : Store) (own more : List Asked) (x y z : List Datagram) (n : ℕ) → y ≡ x ++ sends port s own → z ≡ y ++ take n (sends port (after_all s own) more)
    → z ≡ x ++ take (length (sends port s own) + n) (sends port s (own ++ more))
sent_on port s own more x y z n first second =
    let all : List Datagram = sends port s own in
    second ∙ ap (λ (l : List Datagram). l ++ take n (sends port (after_all s own) more)) first
    ∙ append_assoc x all (take n (sends port (after_all s own) more))
    ∙ ap (λ (l : List Datagram). x ++ l) (sym (take-append-add all (sends port (after_all s own) more) n))
    ∙ ap (λ (l : List Datagram). x ++ take (length all + n) l) (sym (sends-append port s own more))
