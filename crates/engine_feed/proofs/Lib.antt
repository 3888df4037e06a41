mod BothWays
