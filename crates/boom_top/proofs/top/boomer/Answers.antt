use Rattle.std.proofs.Common.{◌≡◌, ℕ, List, Option, map, string_bytes, inl}
use Rattle.boom_top.specs.declared.query.NoReply.TheVariants as none
use Rattle.boom_top.specs.declared.status.Status.TheVariants as status
use Rattle.boom_top.proofs.Sent.{IfOk-status, completely, evidently, exactly, only_memory, partly, read_lost, refused_words, replied, safely, soundly, unsent_by, write_failed}
use Rattle.boom_top.proofs.top.boomer.Given as given
use Rattle.boom_top.proofs.top.boomer.Goals as goal

module _ (g : given.Over) (c : goal.After-send g) where
  abbrev pub old : Option (List ℕ)
  old = g.K.Sink.written c.args.sink.now

  abbrev pub new : Option (List ℕ)
  new = g.K.Sink.written c.send.new.sink

  abbrev pub before : ℕ
  before = g.K.Sink.faults c.args.sink.now

  abbrev pub now : ℕ
  now = g.K.Sink.faults c.send.new.sink

  abbrev pub same : Type 0
  same = c.send.new.sink ≡ c.args.sink.now

  abbrev pub words : List (List ℕ)
  words = map string_bytes c.args.words.now

pub returns-clause-reply : goal.returns-clause-reply
returns-clause-reply g c = λ bytes about. let made = c.words_reply-made.ensures.reply bytes about in
    replied (old g c) (new g c) (before g c) (now g c) c.send.result (same g c) (words g c) bytes c.words_reply-made.result c.send.ensures.sent c.send.ensures.unsent made

pub returns-clause-exact : goal.returns-clause-exact
returns-clause-exact g c = λ bytes about. let made = c.words_reply-made.ensures.reply bytes about in
    exactly (old g c) (new g c) (before g c) (now g c) c.send.result (same g c) (words g c) bytes c.words_reply-made.result c.send.ensures.sent c.send.ensures.unsent made

pub returns-clause-sound : goal.returns-clause-sound
returns-clause-sound g c = λ bytes about. let made = c.words_reply-made.ensures.reply bytes about in
    soundly (old g c) (new g c) (before g c) (now g c) c.send.result (same g c) (words g c) bytes c.words_reply-made.result c.send.ensures.sent c.send.ensures.unsent made

pub returns-clause-safe : goal.returns-clause-safe
returns-clause-safe g c = λ bytes left. let made = c.words_reply-made.ensures.reply bytes (inl left) in
    safely (old g c) (new g c) (before g c) (now g c) c.send.result (same g c) (words g c) bytes c.words_reply-made.result c.send.ensures.sent c.send.ensures.unsent made

pub returns-clause-evident : goal.returns-clause-evident
returns-clause-evident g c = λ bytes about. let made = c.words_reply-made.ensures.reply bytes about in
    evidently (old g c) (new g c) (before g c) (now g c) c.send.result (same g c) (words g c) bytes c.words_reply-made.result c.send.ensures.sent c.send.ensures.unsent made

pub returns-clause-complete : goal.returns-clause-complete
returns-clause-complete g c = λ bytes about. let made = c.words_reply-made.ensures.reply bytes about in
    completely (old g c) (new g c) (before g c) (now g c) c.send.result (same g c) (words g c) bytes c.words_reply-made.result c.send.ensures.sent c.send.ensures.unsent made _ c.words_reply-made.ensures.fault

pub returns-clause-prefix : goal.returns-clause-prefix
returns-clause-prefix g c = λ bytes about. let made = c.words_reply-made.ensures.reply bytes about in
    partly (old g c) (new g c) (before g c) (now g c) c.send.result (same g c) (words g c) bytes c.words_reply-made.result c.send.ensures.sent c.send.ensures.unsent made

pub returns-clause-usage : goal.returns-clause-usage
returns-clause-usage g c =
    IfOk-status (old g c) (new g c) (before g c) (now g c) c.send.result (same g c) c.words_reply-made.result status.Usage _ c.send.ensures.sent c.send.ensures.unsent
    (λ up. up) c.words_reply-made.ensures.usage

pub returns-clause-read_whole : goal.returns-clause-read_whole
returns-clause-read_whole g c =
    IfOk-status (old g c) (new g c) (before g c) (now g c) c.send.result (same g c) c.words_reply-made.result status.Done _ c.send.ensures.sent c.send.ensures.unsent
    (λ up. up) c.words_reply-made.ensures.whole

pub returns-clause-no_words : goal.returns-clause-no_words
returns-clause-no_words g c = λ no.
    refused_words (old g c) (new g c) (before g c) (now g c) c.send.result (same g c) c.words_reply-made.result c.send.ensures.sent c.send.ensures.unsent
    (c.words_reply-made.ensures.no_words no).0 (only_memory c.words_reply-made.result (c.words_reply-made.ensures.no_words no).1)

pub returns-clause-read_fault : goal.returns-clause-read_fault
returns-clause-read_fault g c = λ is.
    let lost = unsent_by (old g c) (new g c) (before g c) (now g c) c.send.result (same g c) c.words_reply-made.result none.ReadFault c.send.ensures.sent
    c.send.ensures.unsent c.words_reply-made.ensures.stands is in
    (c.words_reply-made.ensures.fault lost.0, lost.1)

pub returns-clause-no_memory : goal.returns-clause-no_memory
returns-clause-no_memory g c = λ is.
    (unsent_by (old g c) (new g c) (before g c) (now g c) c.send.result (same g c) c.words_reply-made.result none.NoMemory c.send.ensures.sent
    c.send.ensures.unsent c.words_reply-made.ensures.stands is).1

pub returns-clause-write_fault : goal.returns-clause-write_fault
returns-clause-write_fault g c =
    write_failed (old g c) (new g c) (before g c) (now g c) c.send.result (same g c) c.words_reply-made.result c.send.ensures.sent c.send.ensures.unsent
    c.words_reply-made.ensures.stands

pub returns-clause-reads_told : goal.returns-clause-reads_told
returns-clause-reads_told g c = λ not.
    c.words_reply-made.ensures.told (λ e. not (read_lost (old g c) (new g c) (before g c) (now g c) c.send.result (same g c) c.words_reply-made.result c.send.ensures.unsent e))
