-- What is allowed after what was read of a filter or of an order.
use Rattle.std.proofs.Common.{◌≡◌, Bool, true, false, cond, nat_lt, [], ◌∷◌, ◌++◌, length, Ok, Err, is_ok, refl}
use Rattle.query_lang.specs.declared.filter_reader.PathUse.TheVariants.{Exists as ForExists, Tested}
use Rattle.query_lang.specs.declared.filter_reader.Pending.{Pending}
use Rattle.query_lang.specs.declared.filter_reader.Pending.TheVariants as pending
use Rattle.query_lang.specs.declared.refusal.Cause.{Cause}
use Rattle.query_lang.specs.declared.refusal.Cause.TheVariants as cause
use Rattle.query_lang.specs.declared.token.Beginning.{Beginning}
use Rattle.query_lang.specs.declared.token.Beginning.TheVariants as beginning
use Rattle.query_lang.specs.FilterReading.{State, is_allowed_after, without_pending, filter_rules, on_token, on_operand, segment_at, item_at, on_exists, on_path, on_value, on_list, on_first_item, on_after_item, on_joint}
use Rattle.query_lang.specs.OrderReading as order
use Rattle.query_lang.specs.declared.order_reader.OrderPending.{OrderPending}
use Rattle.query_lang.specs.declared.order_reader.OrderPending.TheVariants as pending_o
use Rattle.query_core.specs.Limits.{most_paths}
use Rattle.query_lang.specs.Reading.{example, is_allowed}

-- a choice is an `Ok` where its test is true
pub ok_if : {A : Type 0} (b : Bool) (a : A) (e : Cause) → b ≡ is_ok (cond b (Ok a) (Err e))
ok_if true a e = refl
ok_if false a e = refl

-- after this much of an atom
allowed_at : (p : Pending) (s : State) (what : Beginning) → is_allowed_after p what ≡ is_ok (on_token p s (example what))
unfolding on_token on_operand segment_at item_at on_exists on_path on_value on_list on_first_item on_after_item on_joint
allowed_at pending.Operand s beginning.Text = refl
allowed_at pending.Operand s beginning.Number = refl
allowed_at pending.Operand s beginning.Unequal = refl
allowed_at pending.ExistsSegment s beginning.Text = refl
allowed_at pending.ExistsSegment s beginning.Number = refl
allowed_at pending.ExistsSegment s beginning.Unequal = refl
allowed_at (pending.Segment used path) s beginning.Text = ok_if (nat_lt (length path) 8) (record s { pending = pending.Path used (path ++ [] ∷ []) }) cause.Syntax
allowed_at (pending.Segment used path) s beginning.Number = refl
allowed_at (pending.Segment used path) s beginning.Unequal = refl
allowed_at (pending.Path ForExists path) s beginning.Text = refl
allowed_at (pending.Path ForExists path) s beginning.Number = refl
allowed_at (pending.Path ForExists path) s beginning.Unequal = refl
allowed_at (pending.Path Tested path) s beginning.Text = refl
allowed_at (pending.Path Tested path) s beginning.Number = refl
allowed_at (pending.Path Tested path) s beginning.Unequal = refl
allowed_at (pending.Value path asks) s beginning.Text = refl
allowed_at (pending.Value path asks) s beginning.Number = refl
allowed_at (pending.Value path asks) s beginning.Unequal = refl
allowed_at (pending.List path) s beginning.Text = refl
allowed_at (pending.List path) s beginning.Number = refl
allowed_at (pending.List path) s beginning.Unequal = refl
allowed_at (pending.FirstItem path) s beginning.Text = refl
allowed_at (pending.FirstItem path) s beginning.Number = refl
allowed_at (pending.FirstItem path) s beginning.Unequal = refl
allowed_at (pending.Item path values) s beginning.Text = refl
allowed_at (pending.Item path values) s beginning.Number = refl
allowed_at (pending.Item path values) s beginning.Unequal = refl
allowed_at (pending.AfterItem path values) s beginning.Text = refl
allowed_at (pending.AfterItem path values) s beginning.Number = refl
allowed_at (pending.AfterItem path values) s beginning.Unequal = refl
allowed_at pending.Joint s beginning.Text = refl
allowed_at pending.Joint s beginning.Number = refl
allowed_at pending.Joint s beginning.Unequal = refl

-- the table says where such a token is taken
pub allowed : (s : State) (what : Beginning) → is_allowed_after s.pending what ≡ is_allowed filter_rules s what
allowed s what = allowed_at s.pending (without_pending s) what

-- after this much of a path
order_allowed_at : (p : OrderPending) (s : order.State) (what : Beginning) → order.is_allowed_after (length s.paths) p what ≡ is_ok (order.on_token p s (example what))
unfolding order.on_token order.on_item order.on_segment order.on_path
order_allowed_at pending_o.Start s beginning.Text = ok_if (nat_lt (length s.paths) most_paths) (record s { pending = pending_o.Path ([] ∷ []) }) cause.TooManyPaths
order_allowed_at pending_o.Start s beginning.Number = refl
order_allowed_at pending_o.Start s beginning.Unequal = refl
order_allowed_at pending_o.Item s beginning.Text = ok_if (nat_lt (length s.paths) most_paths) (record s { pending = pending_o.Path ([] ∷ []) }) cause.TooManyPaths
order_allowed_at pending_o.Item s beginning.Number = refl
order_allowed_at pending_o.Item s beginning.Unequal = refl
order_allowed_at (pending_o.Segment path) s beginning.Text = ok_if (nat_lt (length path) 8) (record s { pending = pending_o.Path (path ++ [] ∷ []) }) cause.Syntax
order_allowed_at (pending_o.Segment path) s beginning.Number = refl
order_allowed_at (pending_o.Segment path) s beginning.Unequal = refl
order_allowed_at (pending_o.Path path) s beginning.Text = refl
order_allowed_at (pending_o.Path path) s beginning.Number = refl
order_allowed_at (pending_o.Path path) s beginning.Unequal = refl
order_allowed_at pending_o.Joint s beginning.Text = refl
order_allowed_at pending_o.Joint s beginning.Number = refl
order_allowed_at pending_o.Joint s beginning.Unequal = refl

-- the table says where such a token is taken
pub order_allowed : (s : order.State) (what : Beginning) → order.is_allowed_after (length s.paths) s.pending what ≡ is_allowed order.order_rules s what
order_allowed s what = order_allowed_at s.pending (order.without_pending s) what
