-- What a packet asks, with what the clock gave for it.
use Rattle.std.proofs.Common.{◌≡◌, ℕ, List, [], ◌∷◌, Some, None, refl, sym, subst}
use Rattle.pg_call.specs.declared.call.Call.{Call}
use Rattle.pg_call.specs.declared.reply.Reply.{Reply}
use Rattle.pg_msg.specs.declared.message.Message.{Message}
use Rattle.pg_net.specs.Clock.{AreNoted, Told}
use Rattle.pg_net.proofs.Noted.{noted-none}
use Rattle.pg_packet_write.specs.DatagramValue.{DatagramValue}
use Rattle.pg_packet_write.specs.declared.datagram.Content.{Content}
use Rattle.pg_packet_write.specs.declared.datagram.Content.TheVariants as content
use Rattle.pg_packet_write.specs.declared.datagram.Request.TheVariants as request
use Rattle.pg_host.specs.Inputs.{arrived, called, ticked}
use Rattle.pg_host.specs.Turn.{Asks}

abbrev pub datagram : ℕ → ℕ → Content → DatagramValue
datagram sender view said = record { from = sender; view = view; content = said }

-- a list that stayed
noted_same : (old new : List ℕ) → new ≡ old → AreNoted old new []
noted_same old new is = subst (λ (l : List ℕ). AreNoted old l []) (sym is) (noted-none old)

module _ (ct : Type 0) (from sender view : ℕ) (d : DatagramValue) where
  pub asks_message : (message : Message) (c : Told) → datagram sender view (content.Message message) ≡ d
      → Asks ct from d (Some (arrived (datagram sender view (content.Message message)) message)) c c
  asks_message message c is = subst (λ (x : DatagramValue). Asks ct from x (Some (arrived (datagram sender view (content.Message message)) message)) c c) is (record {
    moments = [];
    words = [];
    moment = refl;
    word = refl;
    noted_moments = λ tells. noted-none c.moments;
    noted_words = λ tells. noted-none c.words;
    is = refl;
  })

  pub asks_reply : (number : ℕ) (reply : Reply) (c : Told) → datagram sender view (content.Reply number reply) ≡ d → Asks ct from d None c c
  asks_reply number reply c is = subst (λ (x : DatagramValue). Asks ct from x None c c) is (record {
    moments = [];
    words = [];
    moment = refl;
    word = refl;
    noted_moments = λ tells. noted-none c.moments;
    noted_words = λ tells. noted-none c.words;
    is = refl;
  })

  module _ (number moment : ℕ) (c0 c1 : Told) (given : ct → AreNoted c0.moments c1.moments (moment ∷ [])) (words_stay : ct → c1.words ≡ c0.words) where
    pub asks_call : (call : Call) → datagram sender view (content.Call number (request.Call call)) ≡ d → Asks ct from d (Some (called from number moment call)) c0 c1
    asks_call call is = subst (λ (x : DatagramValue). Asks ct from x (Some (called from number moment call)) c0 c1) is (record {
      moments = moment ∷ [];
      words = [];
      moment = refl;
      word = refl;
      noted_moments = given;
      noted_words = λ tells. noted_same c0.words c1.words (words_stay tells);
      is = refl;
    })

    pub asks_tick : (word : ℕ) (c2 : Told) → (ct → AreNoted c1.words c2.words (word ∷ [])) → (ct → c2.moments ≡ c1.moments) → datagram sender view (content.Call number request.Tick) ≡ d
        → Asks ct from d (Some (ticked from number moment word)) c0 c2
    asks_tick word c2 more moments_stay is = subst (λ (x : DatagramValue). Asks ct from x (Some (ticked from number moment word)) c0 c2) is (record {
      moments = moment ∷ [];
      words = word ∷ [];
      moment = refl;
      word = refl;
      noted_moments = λ tells. subst (λ (l : List ℕ). AreNoted c0.moments l (moment ∷ [])) (sym (moments_stay tells)) (given tells);
      noted_words = λ tells. subst (λ (l : List ℕ). AreNoted l c2.words (word ∷ [])) (words_stay tells) (more tells);
      is = refl;
    })
