-- What the console with stations and displays holds, and what its commands answer and leave behind.
use Rattle.std.specs.Prelude.{◌≡◌, Ok, Result}
use Rattle.fm.specs.Taking.{FmState, fm}
use Rattle.fm.specs.Views.{fm_view}
use Rattle.dab.specs.Taking.{State, dab}
use Rattle.dab.specs.Held.{dab_state}
use Rattle.script.specs.declared.fault.Fault.{Fault}
use Rattle.script.specs.declared.reply.Reply.{Reply}
use Rattle.bench.specs.Held.{Held, held, nothing}
use Rattle.bench.specs.State.{Obeys as LabelObeys}
use Rattle.bench.specs.declared.carriers.Named.{Named}
use Rattle.bench.specs.declared.carriers.Named.TheVariants.{Fm, Dab}
use Rattle.bench_posts.specs.declared.command.Command.{Command}
use Rattle.bench_posts.specs.declared.command.Command.TheVariants.{Label, At}
use Rattle.bench_posts.specs.declared.command.Order.{Order}
use Rattle.bench_posts.specs.declared.state.Bench.{Bench}
use Rattle.bench_posts.specs.Posts.{PostState, post_of, new_post, PostObeys}

-- what the console holds: the label, and for each carrier a station and a display
pub record BenchState : Type 0 where
  pub label : Held
  pub fm : PostState FmState
  pub dab : PostState State

abbrev pub bench_of : Bench → BenchState
bench_of b = record { label = held b.bench.label; fm = post_of fm_view b.fm; dab = post_of dab_state b.dab }

abbrev pub new_bench : BenchState
new_bench = record { label = nothing; fm = new_post fm; dab = new_post dab }

-- an order is for one carrier's post, and leaves all else
abbrev pub OrderObeys : BenchState → Named → Order → Result Reply Fault → BenchState → Type 0
OrderObeys s Fm o r t = PostObeys fm s.label o s.fm r t.fm × (t.dab ≡ s.dab) × (t.label ≡ s.label)
OrderObeys s Dab o r t = PostObeys dab s.label o s.dab r t.dab × (t.fm ≡ s.fm) × (t.label ≡ s.label)

-- what a command answers, and what the console holds after it; a command about a label leaves the posts
abbrev pub Obeys : BenchState → Command → Result Reply Fault → BenchState → Type 0
Obeys s (Label c) r t = LabelObeys s.label c r t.label × (t.fm ≡ s.fm) × (t.dab ≡ s.dab)
Obeys s (At c o) r t = OrderObeys s c o r t

-- a reply that some command gets
abbrev pub Replies : BenchState → Reply → BenchState → Type 0
Replies s x t = (c : Command) × Obeys s c (Ok x) t
