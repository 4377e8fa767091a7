-- Which bytes the words of refusals and replies lack, and how many words there are.
use Rattle.std.proofs.Common.{ℕ, ◌≡◌, ◌≢◌, ◌<◌, ◌≤◌, List, [], ◌∷◌, Bool, true, false, arith, codes, decimal, length, map, sym, subst}
use Rattle.std.specs.List.{AllByRecursion}
use Rattle.std.proofs.lemmas.List.{length-map}
use Rattle.std.proofs.lemmas.List.Elements.{All-append, All-cons, All-weaker}
use Rattle.pg_base.specs.Id.{spelling}
use Rattle.pg_call.specs.Refusal.{IsRefusal, refusal_words, unsettled_word}
use Rattle.pg_call.specs.Reply.{IsReply, IsRow, IsTickReply, reply_words, row_word}
use Rattle.pg_call.specs.pg_intent.declared.kind.IntentKind.TheVariants as intent
use Rattle.pg_call.specs.declared.refusal.Refusal.{Refusal}
use Rattle.pg_call.specs.declared.refusal.Refusal.TheVariants as refusal
use Rattle.pg_call.specs.declared.refusal.Unsettled.{Unsettled}
use Rattle.pg_call.specs.declared.refusal.Unsettled.TheVariants as unsettled
use Rattle.pg_call.specs.declared.reply.Reply.{Reply}
use Rattle.pg_call.specs.declared.reply.Reply.TheVariants as reply
use Rattle.pg_path.specs.Name.{IsComponentByte}
use Rattle.pg_path.specs.declared.row.Row.{Row}
use Rattle.pg_journal_lines.specs.Reason.{reason_name, reason_number, reason_of, value_words}
use Rattle.pg_call.specs.declared.refusal.RefusalKind.{RefusalKind}
use Rattle.pg_call.specs.declared.refusal.RefusalKind.TheVariants as reason
use Rattle.pg_journal_lines.proofs.RefusalSpelling.{refusal_parts}
use Rattle.pg_words.specs.ChoiceWord.{gold_word}
use Rattle.pg_words.proofs.Lacking.{Ends, literal, Lacks-decimal, Lacks-hex, Lacks-server, Lacks-spelling, Lacks-stamp}
use Rattle.pg_words.proofs.Places.{place-lack}
use Rattle.pg_words.proofs.Splitting.{Lacks}

Lacks-number : (c : ℕ) (k : RefusalKind) → Ends c → Lacks c (reason_number k)
Lacks-number c reason.BadPath h = let low = h.low in literal c (codes "1") (omega arith)
Lacks-number c k h = let low = h.low in literal c (reason_number k) (omega arith)

Lacks-name : (c : ℕ) (k : RefusalKind) → Ends c → Lacks c (reason_name k)
Lacks-name c reason.BadPath h = let low = h.low in literal c (codes "BadPath") (omega arith)
Lacks-name c k h = let low = h.low in literal c (reason_name k) (omega arith)

Lacks-unsettled : (c : ℕ) (u : Unsettled) → Ends c → Lacks c (unsettled_word u)
Lacks-unsettled c (unsettled.Intent intent.Bye) h = let low = h.low in literal c (codes "Bye") (omega arith)
Lacks-unsettled c u h = let low = h.low in literal c (unsettled_word u) (omega arith)

pub Lacks-gold : (c : ℕ) (b : Bool) → Ends c → Lacks c (gold_word b)
Lacks-gold c true h = let low = h.low in literal c (codes "gold") (omega arith)
Lacks-gold c false h = let low = h.low in literal c (codes "bronze") (omega arith)

value-lack : (c : ℕ) (r : Refusal) → Ends c → IsRefusal r → AllByRecursion (Lacks c) (value_words r)
value-lack c (refusal.BadPath n) h fits = (Lacks-decimal c n h (omega arith), tt)
value-lack c (refusal.NotYet f) h fits = (Lacks-spelling c f h fits, tt)
value-lack c (refusal.NoName n) h fits = (Lacks-decimal c n h (omega arith), tt)
value-lack c (refusal.NotDir n) h fits = (Lacks-decimal c n h (omega arith), tt)
value-lack c (refusal.Exists f) h fits = (Lacks-spelling c f h fits, tt)
value-lack c (refusal.NotEmpty f) h fits = (Lacks-spelling c f h fits, tt)
value-lack c (refusal.Behind s) h fits = (Lacks-stamp c s h fits, tt)
value-lack c (refusal.HasChild f) h fits = (Lacks-spelling c f h fits, tt)
value-lack c (refusal.Unsettled w f p) h fits = (Lacks-unsettled c w h, (Lacks-spelling c f h fits.0, (Lacks-server c p h fits.1, tt)))
value-lack c (refusal.WrongView v) h fits = (Lacks-decimal c v h fits, tt)
value-lack c r h fits = tt

refusal-lack : (c : ℕ) (r : Refusal) → Ends c → IsRefusal r → AllByRecursion (Lacks c) (refusal_words r)
refusal-lack c r h fits =
    let low = h.low in
    let P : List (List ℕ) → Type 0 = AllByRecursion (Lacks c) in
    subst P (sym (refusal_parts r)) (literal c (codes "refused") (omega arith), (Lacks-number c (reason_of r) h, (Lacks-name c (reason_of r) h, value-lack c r h fits)))

component_other : (c : ℕ) → c < 33 → (b : ℕ) → IsComponentByte b → b ≢ c
component_other c low b is e = let least = is.least in let e' : b ≡ c = e in omega arith

-- a sign between a name and an id
Lacks-row : (c : ℕ) (r : Row) → c < 33 → Ends c → IsRow r → Lacks c (row_word r)
Lacks-row c r low h fits =
    let name = fits.name in
    All-append (λ b. b ≢ c) r.name (61 ∷ spelling r.child) (All-weaker IsComponentByte (λ b. b ≢ c) (component_other c low) r.name name.each)
    (All-cons (λ b. b ≢ c) 61 (spelling r.child) (λ e. omega arith) (Lacks-spelling c r.child h fits.child))

rows-lack : (c : ℕ) (rows : List Row) → c < 33 → Ends c → AllByRecursion IsRow rows → AllByRecursion (Lacks c) (map row_word rows)
rows-lack c [] low h fits = tt
rows-lack c (r ∷ rows) low h fits = (Lacks-row c r low h fits.0, rows-lack c rows low h fits.1)

-- no word of a reply has a space or a byte below it
pub reply-lack : (c : ℕ) (r : Reply) → Ends c → c < 33 → IsReply r → AllByRecursion (Lacks c) (reply_words r)
reply-lack c reply.Done h low fits = (literal c (codes "done") (omega arith), tt)
reply-lack c (reply.Made f) h low fits = (literal c (codes "made") (omega arith), (Lacks-spelling c f h fits, tt))
reply-lack c (reply.Wrote s) h low fits = (literal c (codes "wrote") (omega arith), (Lacks-stamp c s h fits, tt))
reply-lack c (reply.Bytes b) h low fits = (literal c (codes "bytes") (omega arith), (Lacks-hex c b h fits.each, tt))
reply-lack c (reply.Names n rows) h low fits = (literal c (codes "names") (omega arith), (Lacks-server c n h fits.0, rows-lack c rows low h fits.2))
reply-lack c (reply.Stat s) h low fits =
    let place = place-lack c s.place low fits.place in (
      literal c (codes "stat") (omega arith),
      (
        Lacks-spelling c s.id h fits.id,
        (
          place.0,
          (
            place.1.0,
            (
              place.1.1.0,
              (
                place.1.1.1.0,
                (
                  Lacks-gold c s.gold h,
                  (
                    literal c (codes "golds") (omega arith),
                    (
                      Lacks-decimal c s.golds h fits.golds,
                      (
                        literal c (codes "heads") (omega arith),
                        (
                          Lacks-decimal c s.heads h fits.heads,
                          (
                            literal c (codes "length") (omega arith),
                            (Lacks-decimal c s.length h fits.count, (literal c (codes "edges") (omega arith), (Lacks-decimal c s.edges h fits.edges, tt))),
                          ),
                        ),
                      ),
                    ),
                  ),
                ),
              ),
            ),
          ),
        ),
      ),
    )
reply-lack c (reply.Leaving s) h low fits = (literal c (codes "leaving") (omega arith), (Lacks-server c s h fits, tt))
reply-lack c (reply.Status k) h low fits = (
  literal c (codes "status") (omega arith),
  (
    literal c (codes "view") (omega arith),
    (
      Lacks-decimal c k.view h fits.view,
      (
        literal c (codes "last") (omega arith),
        (
          Lacks-decimal c k.last h fits.last,
          (
            literal c (codes "replicas") (omega arith),
            (
              Lacks-decimal c k.replicas h fits.replicas,
              (
                literal c (codes "intents") (omega arith),
                (
                  Lacks-decimal c k.intents h fits.intents,
                  (
                    literal c (codes "cells") (omega arith),
                    (Lacks-decimal c k.cells h fits.cells, (literal c (codes "held") (omega arith), (Lacks-decimal c k.held h fits.held, tt))),
                  ),
                ),
              ),
            ),
          ),
        ),
      ),
    ),
  ),
)
reply-lack c (reply.Refused r) h low fits = refusal-lack c r h fits

few_values : (r : Refusal) → length (value_words r) ≤ 3
few_values (refusal.BadPath n) = omega arith
few_values r = omega arith

few_refused : (r : Refusal) → length (refusal_words r) ≤ 6
few_refused r = let P : List (List ℕ) → Type 0 = λ ws. length ws ≤ 6 in subst P (sym (refusal_parts r)) (let few = few_values r in omega arith)

-- the most words has a reply of 100 names
pub few_replied : (r : Reply) → IsReply r → length (reply_words r) ≤ 102
few_replied (reply.Names n rows) fits = let most = fits.1 in let same = length-map rows row_word in omega arith
few_replied (reply.Refused r) fits = let few = few_refused r in omega arith
few_replied r fits = omega arith

-- whoever ticks is told a reply
pub tick_reply : (r : Reply) → IsTickReply r → IsReply r
tick_reply reply.Done h = tt
tick_reply (reply.Refused r) h = let P : Refusal → Type 0 = IsRefusal in subst P (sym h) tt
tick_reply r h = absurd h
