use Rattle.std.proofs.Common.{ℕ, ◌∙◌, ap₂}
use Rattle.search.specs.Descents.{setting_at}
use Rattle.walk.proofs.Moved.{child_coming, child_setting, parent_coming, parent_setting}
use Rattle.walk.proofs.cursor.Cursor.step.Goals as goal

pub returns-in-Some : goal.returns-in-Some
returns-in-Some c =
    let at = c.args.self.now in
    let s = c.to_child.new.self in
    let moved = c.to_child.ensures in
    let settled = c.settle-self.ensures in
    record {
      net = settled.net ∙ moved.net;
      setting = ap₂ setting_at settled.net settled.setting ∙ child_setting at c.in-Some.rank c.in-Some.is s c.to_child.result moved.net moved.moved;
      coming = settled.coming ∙ child_coming at c.in-Some.rank c.in-Some.is s c.to_child.result moved.net moved.moved;
    }

pub returns-in-Some-back : goal.returns-in-Some-back
returns-in-Some-back c =
    let at = c.args.self.now in
    let s = c.back.new.self in
    let m : ℕ × ℕ = (c.in-Some-back.moved.leaving, c.in-Some-back.moved.entering) in
    let moved = c.in-Some-back.ensures in
    let settled = c.settle-self-in-Some-back.ensures in
    record {
      net = settled.net ∙ moved.net;
      setting = ap₂ setting_at settled.net settled.setting ∙ parent_setting at c.in-None.is s m moved.net moved.moved;
      coming = settled.coming ∙ parent_coming at c.in-None.is s m moved.net moved.moved;
    }
