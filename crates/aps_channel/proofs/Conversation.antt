-- A conversation by channel 1 of two, of six threads: each answer, computed by the definitions that the contracts cite.
use Rattle.std.proofs.Common.{◌≡◌, ℕ, [], ◌∷◌, refl, replicate, Some, None}
use Rattle.aps_model.specs.Inherit.{client_of, top_of}
use Rattle.aps_model.specs.SchedulerState.{no_channel}
use Rattle.aps_channel.specs.declared.outcome.Sent.{Sent}
use Rattle.aps_channel.specs.declared.outcome.Received.{Received}
use Rattle.aps_channel.specs.declared.outcome.Replied.{Replied}
use Rattle.aps_channel.specs.declared.outcome.Sent.TheVariants as sends
use Rattle.aps_channel.specs.declared.outcome.Received.TheVariants as took
use Rattle.aps_channel.specs.declared.outcome.Replied.TheVariants as replies
use Rattle.aps_channel.specs.Channels.{AfterCall, Channels, channel_in_place, after_receive, after_reply, after_send}

abbrev send : Channels → ℕ → ℕ → AfterCall Sent
send s x priority = after_send s 1 x priority (channel_in_place s 1).receivers

abbrev receive : Channels → ℕ → AfterCall Received
receive s x = after_receive s 1 x (client_of s.triples x)

abbrev reply : Channels → ℕ → AfterCall Replied
reply s x = after_reply s x (client_of s.triples x)

-- two servers wait, 0 before 1
abbrev waiting : Channels
waiting = (receive (receive (record { channels = replicate 2 no_channel; triples = []; threads = 6 }) 0).state 1).state

first_waits : (receive (record { channels = replicate 2 no_channel; triples = []; threads = 6 }) 0).answer ≡ took.Blocked
first_waits = refl

-- the first message goes to the server that came first, the second to the other
abbrev both_serve : Channels
both_serve = (send (send waiting 2 12).state 3 12).state

longest_waiting_gets : (send waiting 2 12).answer ≡ sends.Delivered 0
longest_waiting_gets = refl

next_gets : (send (send waiting 2 12).state 3 12).answer ≡ sends.Delivered 1
next_gets = refl

holding_is_refused : (receive both_serve 0).answer ≡ took.Holding 2
holding_is_refused = refl

nothing_waits : top_of (channel_in_place both_serve 1).messages ≡ None
nothing_waits = refl

-- both serve, so that the next messages wait: 4 with 12, then 5 with 14
abbrev two_wait : Channels
two_wait = (send (send both_serve 4 12).state 5 14).state

sender_waits : (send both_serve 4 12).answer ≡ sends.Blocked
sender_waits = refl

greatest_waits : top_of (channel_in_place two_wait 1).messages ≡ Some 14
greatest_waits = refl

client_is_freed : (reply two_wait 0).answer ≡ replies.Freed 2
client_is_freed = refl

nobody_to_free : (reply two_wait 2).answer ≡ replies.NoClient
nobody_to_free = refl

-- the later and higher message is received first; then 2 sends again, with the priority of 4
abbrev again : Channels
again = (send (receive (reply two_wait 0).state 0).state 2 12).state

higher_comes_first : (receive (reply two_wait 0).state 0).answer ≡ took.Got 5
higher_comes_first = refl

lower_is_left : top_of (channel_in_place again 1).messages ≡ Some 12
lower_is_left = refl

earlier_comes_first : (receive (reply again 0).state 0).answer ≡ took.Got 4
earlier_comes_first = refl

then_the_later : (receive (reply (receive (reply again 0).state 0).state 1).state 1).answer ≡ took.Got 2
then_the_later = refl
