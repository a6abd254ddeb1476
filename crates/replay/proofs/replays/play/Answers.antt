use Rattle.std.proofs.Common.{length, sym}
use Rattle.std.proofs.lemmas.List.{nil_from_length}
use Rattle.std.proofs.lemmas.Bool.{eqb-true}
use Rattle.stream.specs.Readers.{rest_of}
use Rattle.replay.proofs.Reached.{reached_none, reached_more, reached_all}
use Rattle.replay.proofs.Single.{reader_once}
use Rattle.replay.proofs.replays.play.Goals as goal

pub loop-reader-init : goal.loop-reader-init
loop-reader-init c = reached_none c.args.site.now c.args.bytes.now c.new-reader.result c.new-reader.ensures.rest c.new-reader.ensures.place

pub loop-reader-preserved : goal.loop-reader-preserved
loop-reader-preserved c =
    reached_more c.args.site.now c.args.bytes.now c.loop-reader.player c.loop-reader.reader c.loop-reader.invariant c.in_ok-player.player c.step.new.reader
    c.in_ok-player.ensures

pub returns-in_err-player-clause-single : goal.returns-in_err-player-clause-single
returns-in_err-player-clause-single c = reader_once c.args.site.now c.args.bytes.now c.new-reader.result c.new-reader.ensures.rest

pub returns : goal.returns
returns c =
    let none = nil_from_length (rest_of c.loop-reader.reader) (eqb-true (length (rest_of c.loop-reader.reader)) 0 (sym c.loop-reader-test.ensures)) in
    record {
      answer = reached_all c.args.site.now c.args.bytes.now c.loop-reader.player c.loop-reader.reader c.loop-reader.invariant none c.place.result c.place.ensures c.finish.result
          c.finish.ensures;
      single = reader_once c.args.site.now c.args.bytes.now c.new-reader.result c.new-reader.ensures.rest;
    }
