-- The table of refusals: for each fault its layer, the number of the question that was answered no, and the place. Assumes nothing.
use Rattle.std.specs.Prelude.{ℕ, List, ◌∷◌, ◌++◌, Some, None, codes, decimal, Option}
use Rattle.faults.specs.declared.Layer.{Layer}
use Rattle.faults.specs.declared.Refusal.{Refusal}
use Rattle.faults.specs.declared.Fault.{Fault}
use Rattle.faults.specs.declared.TextFault.{TextFault}
use Rattle.faults.specs.declared.NetFault.{NetFault}
use Rattle.faults.specs.declared.SurveyFault.{SurveyFault}
use Rattle.faults.specs.declared.CollectorFault.{CollectorFault}
use Rattle.faults.specs.declared.BoardFault.{BoardFault}
use Rattle.faults.specs.declared.StreamFault.{StreamFault}
use Rattle.faults.specs.declared.ReplayFault.{ReplayFault}

-- A question answered no: by which layer, its number, and where.
abbrev pub answered_no : Layer → ℕ → ℕ → Option Refusal
answered_no l n p = Some (record { layer = l; number = n; place = p })

-- A board's fault with what it says.
abbrev pub refusal_of_board : BoardFault → Option Refusal
refusal_of_board BoardFault.RowLength = answered_no Layer.Board 10 0
refusal_of_board (BoardFault.NotInService link) = answered_no Layer.Board 11 link
refusal_of_board (BoardFault.NotOpen link) = answered_no Layer.Board 12 link
refusal_of_board (BoardFault.OffLoop link) = answered_no Layer.Board 13 link
refusal_of_board BoardFault.NotRadial = answered_no Layer.Board 14 0

-- A stream's fault with what it says.
abbrev pub refusal_of_stream : StreamFault → Option Refusal
refusal_of_stream (StreamFault.UnknownKind place) = answered_no Layer.Stream 15 place
refusal_of_stream (StreamFault.BodyCut place) = answered_no Layer.Stream 16 place

-- A replay's fault with what it says. One of a lower layer keeps its layer, number and place.
abbrev pub refusal_of_replay : ReplayFault → Option Refusal
refusal_of_replay (ReplayFault.Unread f) = refusal_of_stream f
refusal_of_replay (ReplayFault.Misplaced place) = answered_no Layer.Replay 17 place
refusal_of_replay (ReplayFault.AnotherNet place) = answered_no Layer.Replay 18 place
refusal_of_replay (ReplayFault.SameLinks place) = answered_no Layer.Replay 19 place
refusal_of_replay (ReplayFault.TooDeep place) = answered_no Layer.Replay 20 place
refusal_of_replay (ReplayFault.NotReversal place) = answered_no Layer.Replay 21 place
refusal_of_replay (ReplayFault.WrongEnd place) = answered_no Layer.Replay 22 place
refusal_of_replay (ReplayFault.OnBoard f «record») = refusal_of_board f

-- Every fault with what it says. Want of memory answers no question.
abbrev pub refusal_of : Fault → Option Refusal
refusal_of (Fault.Text TextFault.TooLong) = answered_no Layer.Text 1 0
refusal_of (Fault.Text (TextFault.NotInForm line)) = answered_no Layer.Text 2 line
refusal_of (Fault.Net NetFault.OddRow) = answered_no Layer.Net 3 0
refusal_of (Fault.Net NetFault.BarCount) = answered_no Layer.Net 4 0
refusal_of (Fault.Net NetFault.LinkCount) = answered_no Layer.Net 5 0
refusal_of (Fault.Net (NetFault.EndOutside link)) = answered_no Layer.Net 6 link
refusal_of (Fault.Net (NetFault.EndsEqual link)) = answered_no Layer.Net 7 link
refusal_of (Fault.Survey (SurveyFault.Unreached bar)) = answered_no Layer.Survey 8 bar
refusal_of (Fault.Collector CollectorFault.Full) = answered_no Layer.Collector 9 0
refusal_of (Fault.Board f) = refusal_of_board f
refusal_of (Fault.Stream f) = refusal_of_stream f
refusal_of (Fault.Replay f) = refusal_of_replay f
refusal_of Fault.Memory = None

-- The word of a layer.
abbrev pub word : Layer → List ℕ
word Layer.Text = codes "text"
word Layer.Net = codes "net"
word Layer.Survey = codes "survey"
word Layer.Collector = codes "collector"
word Layer.Board = codes "board"
word Layer.Stream = codes "stream"
word Layer.Replay = codes "replay"

-- The line that tells a refusal: `refused`, layer, number and place, single spaces between.
abbrev pub refused_line : Refusal → List ℕ
refused_line r = codes "refused " ++ (word r.layer ++ (32 ∷ decimal r.number ++ (32 ∷ decimal r.place)))
