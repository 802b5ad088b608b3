mod TickCalled
