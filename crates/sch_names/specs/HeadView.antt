-- What the code's head of a combination stands for.
use Rattle.sch_names.specs.declared.scope.Head as code
use Rattle.sch_names.specs.declared.scope.Head.TheVariants as variant
use Rattle.sch_names.specs.Scope.{Head, form, operating, calling}

abbrev pub head_view : code.Head → Head
head_view (variant.Form k) = form k
head_view (variant.Operating o) = operating o
head_view variant.Calling = calling
