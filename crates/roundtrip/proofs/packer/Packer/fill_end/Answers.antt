use Rattle.std.proofs.Common.{◌≡◌, true, ◌++◌, length, sym, refl, ap, ◌∙◌, subst}
use Rattle.std.proofs.lemmas.Bool.{leb-true}
use Rattle.trees.specs.Listings.{listing}
use Rattle.stream.specs.Writers.{bytes_of}
use Rattle.stream.specs.Records.{end_bytes}
use Rattle.walk.specs.Walks.{handed_by}
use Rattle.roundtrip.specs.Packers.{net_packed}
use Rattle.roundtrip.specs.Stages.{is_due}
use Rattle.roundtrip.proofs.Packed.{end_filled, put_ok, all_told}
use Rattle.roundtrip.proofs.packer.Packer.fill_end.Goals as goal

pub returns-then-is_ok : goal.returns-then-is_ok
returns-then-is_ok c =
    let p = c.args.self.now in
    let w = c.args.writer.now in
    let net = net_packed p in
    let n = handed_by p.walk in
    let all = leb-true (length (listing net)) n (subst (λ s. is_due net s n ≡ true) c.requires p.due) in
    let (fits, bytes) = put_ok (end_bytes c.look.result.settings) w c.end.new.self c.end.result (sym c.is_ok.ensures.value ∙ c.if-is_ok.true) c.end.ensures in
    end_filled w c.end.new.self p _ refl n c.requires refl refl refl fits
    (bytes ∙ ap (λ k. bytes_of w ++ end_bytes k) (c.look.ensures.answer.settings ∙ all_told net n all))
